use Rattle.std.proofs.Common.{IfOk, w64, subst}
use Rattle.std.proofs.lemmas.Int.{to_z-of_z}
use Rattle.roster_search_regions.specs.Regions.{IsIn}
use Rattle.roster_search_least.specs.Least.{IsLeastBelow}
use Rattle.roster_search_least.proofs.least.least_of_region.Goals as goal

pub returns-clause-least : goal.returns-clause-least
returns-clause-least g c =
    let Here = IsIn c.args.problem.now c.args.region in
    subst (λ limit. IfOk c.least_within.result (IsLeastBelow c.args.problem.now Here limit))
    (to_z-of_z w64 c.args.limit c.ranges.limit) c.least_within.ensures.least
