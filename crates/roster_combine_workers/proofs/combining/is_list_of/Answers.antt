use Rattle.std.proofs.Common.{◌≤◌, length, map, drop, sym, ap, ◌∙◌, arith}
use Rattle.std.proofs.lemmas.Bool.{eq-eqb, eqb-true}
use Rattle.std.proofs.lemmas.List.{drop_all, length-drop, length-map}
use Rattle.roster_subtreepool_spans.specs.Spans.{Span}
use Rattle.std.proofs.Common.{List}
use Rattle.roster_combine_workers.specs.Parts.{span_of, spans_by}
use Rattle.roster_combine_workers.proofs.combining.is_list_of.Goals as goal

pub returns : goal.returns
returns c =
    let list = c.args.list.now in
    let next = c.loop-k.next in
    let rest = c.loop-k.invariant.rest in
    let none = ap (spans_by c.args.worker) (drop_all c.loop-k.k c.args.finished.now c.loop-k-test.false) in (
      λ all.
          let past : length list ≤ next = omega (arith, eqb-true next (length list) all) in
          rest.1 (ap (map span_of) (drop_all next list past) ∙ sym none),
      λ same.
          let left = ap (λ (spans : List Span). length spans) (rest.0 same ∙ none) in
          eq-eqb next (length list) (omega (arith, left, length-map (drop next list) span_of, length-drop next list, c.loop-k.invariant.within)),
    )
