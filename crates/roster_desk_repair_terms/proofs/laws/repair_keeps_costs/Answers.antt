use Rattle.roster_desk_repair_terms.proofs.Costs.{keeps_costs}
use Rattle.roster_desk_repair_terms.proofs.laws.repair_keeps_costs.Goals as goal

pub returns : goal.returns
returns c = keeps_costs
