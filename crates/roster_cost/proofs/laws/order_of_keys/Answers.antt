use Rattle.roster_cost.proofs.Compared.{compare-le, compare-lt, is_same-decides}
use Rattle.roster_cost.proofs.laws.order_of_keys.Goals as goal

pub returns : goal.returns
returns c = record { le = compare-le; lt = compare-lt; same = is_same-decides }
