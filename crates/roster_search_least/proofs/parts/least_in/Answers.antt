use Rattle.std.proofs.Common.{◌-◌, ◌^◌, pos}
use Rattle.std.proofs.lemmas.Result.{IfOk-weaker}
use Rattle.roster_bases.specs.Bases.{only}
use Rattle.roster_search_regions.specs.Regions.{IsIn}
use Rattle.roster_search_least.specs.Least.{IsLeastBelow}
use Rattle.roster_search_least.specs.Parts.{IsInPart}
use Rattle.roster_search_least.proofs.RangeParts.{least_in_other}
use Rattle.roster_search_least.proofs.parts.least_in.Goals as goal

pub returns-clause-least : goal.returns-clause-least
returns-clause-least g c =
    let problem = c.args.lines.now.problem.now in
    let table = c.args.lines.now.table.now in
    let ranges = c.args.lines.now.ranges.now in
    let base = c.args.base in
    let region = c.args.region in
    IfOk-weaker c.least_of_region.result (IsLeastBelow problem (IsIn problem region) (pos (2 ^ 63 - 1)))
    (IsLeastBelow problem (IsInPart problem table ranges (only base)) (pos (2 ^ 63 - 1)))
    (λ found least. least_in_other problem (IsIn problem region) (IsInPart problem table ranges (only base)) (pos (2 ^ 63 - 1)) found c.requires.part.inside (λ places legal part. c.requires.part.all places part) least)
    c.least_of_region.ensures.least
