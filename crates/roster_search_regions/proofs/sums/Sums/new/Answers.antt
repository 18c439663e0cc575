use Rattle.std.proofs.Common.{refl}
use Rattle.roster_search_regions.proofs.SumLemmas.{AreSums-root}
use Rattle.roster_search_regions.proofs.sums.Sums.new.Goals as goal

pub returns : goal.returns
returns c prices = AreSums-root prices _ refl
