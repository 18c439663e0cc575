use Rattle.std.proofs.Common.{◌<◌, ℕ, List, Vec, Global, length, map, sym, ap, ◌∙◌, subst, arith}
use Rattle.std.specs.Prelude.{All}
use Rattle.std.proofs.lemmas.List.{length-map}
use Rattle.roster_subtreepool_spans.specs.Spans.{Span}
use Rattle.roster_subtreepool.specs.States.{SettledSpan}
use Rattle.roster_combine_workers.specs.Parts.{spans_by}
use Rattle.roster_combine_workers.proofs.combining.agree.Goals as goal

-- all of the finished spans are among those of so many workers
abbrev Within : ℕ → List (ℕ × Span) → Type 0
Within count finished = All (λ (entry : ℕ × Span). entry.0 < count) finished

pub returns : goal.returns
returns c =
    let items : Vec SettledSpan Global → List SettledSpan = λ list. list.items in
    let lists = map items c.args.lists.now in
    let finished = c.finished-finished.ensures.value in
    let same = c.are_same.ensures.0 c.if-not-are_same.false in
    let workers = c.are_workers.ensures.0 c.if-not-are_workers.false in (
      λ yes. record {
        covers = sym c.widths.ensures ∙ same;
        workers =
            subst (λ (n : ℕ). Within n c.args.closed.now.finished) (sym (length-map c.args.lists.now items))
            (subst (λ fs. Within (length c.args.lists.now) fs) finished workers);
        spans = λ worker within. c.are_lists_of.ensures.0 yes worker (omega (arith, within, length-map c.args.lists.now items)) ∙ ap (spans_by worker) finished;
      },
      λ all. c.are_lists_of.ensures.1 (λ worker within. all.spans worker (omega (arith, within, length-map c.args.lists.now items)) ∙ ap (spans_by worker) (sym finished)),
    )
