use Rattle.std.proofs.Common.{length, Some, sym, subst}
use Rattle.std.specs.Prelude.{unwrap_or}
use Rattle.roster_model.specs.Rosters.{Key}
use Rattle.roster_model.specs.Settled.{Anywhere, Settles}
use Rattle.roster_search_regions.specs.Regions.{IsInRanges}
use Rattle.roster_search_least.specs.Parts.{AreWhole}
use Rattle.roster_search_least.proofs.FindLemmas.{if_ok}
use Rattle.roster_search_least.proofs.RangeParts.{settles_all}
use Rattle.roster_search_threads.proofs.bases.search_bases.Goals as goal

pub returns-clause-settled : goal.returns-clause-settled
returns-clause-settled g c =
    let problem = c.args.problem.now in
    let table = c.args.table.now in
    let known : Key = c.args.known.now in
    let ranges = c.as_slice.result.now in
    let are =
    subst (AreWhole table (length table)) (sym c.as_slice.ensures.value) c.in_ok-ranges.ensures in
    if_ok c.least_with.result
    (λ found. Settles problem (IsInRanges table ranges) (IsInRanges table ranges) (Some known) (unwrap_or found known))
    (λ found. Settles problem Anywhere Anywhere (Some known) (unwrap_or found known))
    c.least_with.ensures.settled
    (λ found settled. settles_all problem table ranges (Some known) (unwrap_or found known) c.requires.table are settled)
