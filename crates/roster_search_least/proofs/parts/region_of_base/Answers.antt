use Rattle.std.proofs.Common.{◌≡◌, length, sym, subst, arith}
use Rattle.roster_search_least.specs.Parts.{AreOwnRanges, IsRegionOfPart}
use Rattle.roster_search_least.proofs.FindLemmas.{both_if_ok}
use Rattle.roster_search_least.proofs.RangeParts.{in_part_from_ranges, in_ranges_from_part}
use Rattle.roster_search_least.proofs.parts.region_of_base.Goals as goal

pub returns : goal.returns
returns c =
    let problem = c.args.lines.now.problem.now in
    let table = c.args.lines.now.table.now in
    let ranges = c.args.lines.now.ranges.now in
    let base = c.args.base in
    let own = c.deref.result.now in
    let covers : length ranges ≡ length problem.persons =
    omega (arith, c.requires.ranges, c.requires.table.covers) in
    let are = subst (AreOwnRanges problem base ranges) (sym c.deref.ensures.value) c.in_ok-own.ensures in
    both_if_ok c.of_ranges.result _ _
    (IsRegionOfPart problem table ranges base) c.of_ranges.ensures.region c.of_ranges.ensures.same
    (λ region is same. record {
      is_region = is;
      inside = λ places inside. let parts = (same places).0 inside in in_part_from_ranges problem table ranges own base c.requires.table covers are places parts.0 parts.1;
      all = λ places part. (same places).1 (part.legal, in_ranges_from_part problem table ranges own base c.requires.table covers are places part);
    })
