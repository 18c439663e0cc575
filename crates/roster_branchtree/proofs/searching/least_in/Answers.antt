use Rattle.std.proofs.Common.{ℕ, List, Some, subst}
use Rattle.std.specs.Prelude.{unwrap_or}
use Rattle.roster_model.specs.Settled.{Settles}
use Rattle.roster_search_regions.specs.Regions.{IsInRanges}
use Rattle.roster_subtreepool_spans.specs.Spans.{IsInSpan}
use Rattle.roster_branchtree.proofs.SpanLemmas.{settles_in_span}
use Rattle.roster_branchtree.proofs.searching.least_in.Goals as goal

pub returns-clause-settled : goal.returns-clause-settled
returns-clause-settled g c =
    let best = c.args.best.now in
    let table = c.args.table.now in
    let span = c.args.span.now in
    let found = unwrap_or c.in_ok-found.found best in
    let settled = subst (λ (ranges : List (ℕ × ℕ)). Settles c.args.problem.now (IsInRanges table ranges) (IsInRanges table ranges) (Some best) found) c.deref.ensures.value c.in_ok-found.ensures.settled in
    settles_in_span c.args.problem.now table span c.in_ok-ranges.ranges.items
    (IsInSpan table span) best found c.requires.table c.requires.person c.in_ok-ranges.ensures
    (λ places inside. inside) settled
