use Rattle.std.proofs.Common.{[], take, ap, sym, w64, to_z, of_z, SFits, ◌∙◌, subst, arith}
use Rattle.std.specs.Prelude.{filter, int_le}
use Rattle.std.proofs.lemmas.Int.{ints, to_z-of_z}
use Rattle.std.proofs.lemmas.List.{take_all}
use Rattle.roster_search_regions.specs.Marks.{IsMarking}
use Rattle.roster_search_regions.specs.Prices.{value_of, AreSums}
use Rattle.roster_search_regions.specs.Regions.{allowed}
use Rattle.roster_search_regions.specs.Trees.{lines_after, lines_in, next_path, path_after}
use Rattle.roster_search_regions.proofs.MarkLemmas.{marked_at}
use Rattle.roster_search_regions.proofs.TreeLemmas.{path_at}
use Rattle.roster_search_regions.proofs.marking.marks_within.Goals as goal

pub loop-i-init : goal.loop-i-init
unfolding path_after lines_after lines_in
loop-i-init c = record {
  there = c.new-path.ensures;
  sums = c.new-sums.ensures c.args.prices.now;
  marking = c.in_ok-marker.ensures;
}

pub mark-requires : goal.mark-requires
mark-requires c = record { known = (_, _, c.loop-i.invariant.marking) }

pub loop-i-preserved : goal.loop-i-preserved
loop-i-preserved c =
    let choices = c.args.rows.now in
    let item = c.at-choice.result in
    let there = c.in_ok-step.ensures ∙ ap (λ path. next_path path item) c.loop-i.invariant.there in
    let sums = c.step-in-loop-i.ensures (path_after [] (take c.loop-i.i choices)) c.loop-i.invariant.sums in
    let value =
    c.value.ensures.value c.args.prices.now
    (next_path (path_after [] (take c.loop-i.i choices)) item) sums in
    let fits : SFits w64 c.value.result =
    omega (arith, ints, c.value.ensures.bound.0, c.value.ensures.bound.1) in
    record {
      there = there ∙ sym (path_at choices c.loop-i.i item c.at-choice.ensures.value);
      sums =
          subst (AreSums c.args.prices.now c.step-in-loop-i.new.self)
          (sym (path_at choices c.loop-i.i item c.at-choice.ensures.value)) sums;
      marking =
          marked_at (λ line. int_le (value_of c.args.prices.now line) (to_z w64 (of_z w64 c.args.most))) choices c.loop-i.i item _ _ _ _ _
          c.at-choice.ensures.value c.in_ok-step.ensures c.loop-i.invariant.there
          (ap (λ z. int_le z (to_z w64 (of_z w64 c.args.most))) (to_z-of_z w64 c.value.result fits ∙ value ∙ ap (λ way. value_of c.args.prices.now (allowed way item.extra)) (sym there)))
          c.in_ok-mark.ensures c.loop-i.invariant.marking;
    }

pub returns : goal.returns
returns c =
    let prices = c.args.prices.now in
    let all = take_all c.loop-i.i c.args.rows.now (omega (arith, c.loop-i-test.false, c.len-i-end.ensures)) in
    subst (λ z. IsMarking c.loop-i.marker c.args.rows.now (filter (λ line. int_le (value_of prices line) z) (lines_in c.args.rows.now))) (to_z-of_z w64 c.args.most c.ranges.most)
    (subst (λ cs. IsMarking c.loop-i.marker cs (filter (λ line. int_le (value_of prices line) (to_z w64 (of_z w64 c.args.most))) (lines_in cs))) all c.loop-i.invariant.marking)
