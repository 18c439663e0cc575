use Rattle.std.proofs.Common.{ap, sym, ◌∙◌, subst, arith}
use Rattle.std.specs.Prelude.{filter}
use Rattle.std.proofs.lemmas.List.{take_all}
use Rattle.roster_search_regions.specs.Marks.{IsMarking}
use Rattle.roster_search_regions.specs.Tests.{passes}
use Rattle.roster_search_regions.specs.Trees.{lines_after, lines_in, next_path, path_after}
use Rattle.roster_search_regions.proofs.MarkLemmas.{marked_at}
use Rattle.roster_search_regions.proofs.TreeLemmas.{path_at}
use Rattle.roster_search_regions.proofs.marking.marks_passing.Goals as goal

pub loop-i-init : goal.loop-i-init
unfolding path_after lines_after lines_in
loop-i-init c = record {
  there = c.new-path.ensures;
  marking = c.in_ok-marker.ensures;
}

pub mark-requires : goal.mark-requires
mark-requires c = record { known = (_, _, c.loop-i.invariant.marking) }

pub loop-i-preserved : goal.loop-i-preserved
loop-i-preserved c =
    let choices = c.args.rows.now in
    let item = c.at-choice.result in
    record {
      there =
          c.in_ok-step.ensures ∙ ap (λ path. next_path path item) c.loop-i.invariant.there
          ∙ sym (path_at choices c.loop-i.i item c.at-choice.ensures.value);
      marking =
          marked_at (λ line. passes c.args.test.now line.set) choices c.loop-i.i item c.passes.result _ _ _ _
          c.at-choice.ensures.value c.in_ok-step.ensures c.loop-i.invariant.there
          c.passes.ensures
          c.in_ok-mark.ensures c.loop-i.invariant.marking;
    }

pub returns : goal.returns
returns c =
    let all = take_all c.loop-i.i c.args.rows.now (omega (arith, c.loop-i-test.false, c.len-i-end.ensures)) in
    subst (λ cs. IsMarking c.loop-i.marker cs (filter (λ line. passes c.args.test.now line.set) (lines_in cs))) all c.loop-i.invariant.marking
