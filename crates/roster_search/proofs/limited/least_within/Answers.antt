use Rattle.std.proofs.Common.{w64, subst, sym}
use Rattle.std.proofs.lemmas.Int.{to_z-of_z}
use Rattle.roster_lines_table.specs.Person.{IsOfTable}
use Rattle.roster_search_regions.specs.Regions.{IsIn}
use Rattle.roster_search_least.specs.Least.{IsLeastBelow}
use Rattle.roster_search_least.specs.Parts.{AreWhole}
use Rattle.roster_search_least.proofs.RangeParts.{in_whole_of, least_in_other, of_whole}
use Rattle.roster_search.proofs.limited.least_within.Goals as goal

pub returns-in-Ok : goal.returns-in-Ok
returns-in-Ok c =
    let problem = c.args.problem.now in
    let table = c.args.table.now in
    let region = c.in_ok-region.region in
    let ranges = c.deref.result.now in
    let are = subst (AreWhole table _) (sym c.deref.ensures.value) c.in_ok-ranges.ensures in
    least_in_other problem (IsIn problem region) (IsOfTable table) c.args.limit c.in-Ok.found
    (λ places inside. of_whole table ranges places are ((c.in_ok-region.ensures.same places).0 inside).1)
    (λ places legal is. (c.in_ok-region.ensures.same places).1 (legal, in_whole_of table ranges places are is))
    (subst (λ limit. IsLeastBelow problem (IsIn problem region) limit c.in-Ok.found) (to_z-of_z w64 c.args.limit c.ranges.limit) c.in-Ok.ensures.least)
