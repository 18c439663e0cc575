use Rattle.std.proofs.Common.{◌≡◌, length, sym, ap, ◌∙◌, subst}
use Rattle.std.specs.Arc.{arc_value}
use Rattle.std.proofs.lemmas.Bool.{eqb-true}
use Rattle.std.proofs.lemmas.Result.{IfOk-at_ok}
use Rattle.roster_subtreepool_spans.specs.Spans.{IsInSpan, Span}
use Rattle.roster_combine_workers.specs.Parts.{IsSettled, Task}
use Rattle.roster_combine_workers.proofs.RootLemmas.{nobody_is_best, settled_is_best}
use Rattle.roster_combine_workers.proofs.root.search_root.Goals as goal

pub returns-then-is_empty : goal.returns-then-is_empty
returns-then-is_empty g c =
    let problem = c.args.problem.now in
    let nobody : length problem.persons ≡ 0 =
    sym (ap length c.persons.ensures.value)
    ∙ eqb-true _ _ (sym c.is_empty.ensures ∙ c.if-is_empty.true) in
    nobody_is_best problem _ nobody c.in_ok-known.ensures.left

pub returns : goal.returns
returns g c =
    let problem = c.args.problem.now in
    let table = c.args.table.now in
    let done = c.in_ok-piece.field-0 in
    let best = arc_value done.best in
    let found = IfOk-at_ok (λ done. IsSettled (g.F.SpanSearch.task c.args.searcher.now).problem (g.F.SpanSearch.task c.args.searcher.now).table (record { span = done.piece; best = arc_value done.best })) c.in_ok-piece.ensures c.search.ensures.settled in
    let settled : IsSettled problem table (record { span = done.piece; best = best }) =
    subst (λ (task : Task). IsSettled task.problem task.table (record { span = done.piece; best = best })) c.requires.searcher found in
    let same : done.piece ≡ c.root_of.result =
    IfOk-at_ok (λ done. done.piece ≡ c.of-root.result) c.in_ok-piece.ensures c.search.ensures.span ∙ c.of-root.ensures in
    settled_is_best problem table done.piece best settled
    (λ others legal. subst (λ (span : Span). IsInSpan table span others) (sym same) (c.root_of.ensures problem c.requires.table others legal))
