use Rattle.std.proofs.Common.{◌≡◌, Some, ap, ◌∙◌, subst}
use Rattle.std.specs.Arc.{arc_value}
use Rattle.roster_model.specs.Settled.{Settles}
use Rattle.roster_subtreepool_spans.specs.Spans.{IsInSpan, Span}
use Rattle.roster_branchtree.specs.Shown.{Watched}
use Rattle.roster_branchtree.proofs.Settling.{watch_of}
use Rattle.roster_branchtree.proofs.searching.search.Goals as goal

pub returns-in-Ok-best_of-clause-settled : goal.returns-in-Ok-best_of-clause-settled
returns-in-Ok-best_of-clause-settled g c =
    let problem = c.args.problem.now in
    let table = c.args.table.now in
    let best = arc_value c.in-Ok-best_of.best in
    let began = c.new-watch.ensures ∙ ap (watch_of problem c.args.every) c.in-Ok.ensures in
    let settled = subst (λ (w : Watched). Settles problem (IsInSpan table c.span.result.now) (λ places. w.every ≡ 0 → IsInSpan table c.span.result.now places) (Some w.best) best) began c.in-Ok-best_of.ensures in
    subst (λ (span : Span). Settles problem (IsInSpan table span) (λ places. c.args.every ≡ 0 → IsInSpan table span places) (Some (arc_value c.args.known.now)) best) c.span.ensures settled
