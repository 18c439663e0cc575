use Rattle.std.proofs.Common.{ap, subst, arith}
use Rattle.std.proofs.lemmas.Bool.{false≢true}
use Rattle.std.proofs.lemmas.List.{take_all}
use Rattle.roster_model.specs.Rules.{is_among}
use Rattle.roster_search_regions.specs.Trees.{lines_after, lines_in, path_after, ArePossible}
use Rattle.roster_search_regions.proofs.RowLemmas.{possible-next}
use Rattle.roster_search_regions.proofs.rows.Rows.possible.Goals as goal

pub loop-i-init : goal.loop-i-init
unfolding path_after lines_after lines_in
loop-i-init c = record {
  some = λ p. ap (λ set. is_among set p) c.empty-possible.ensures;
  last = λ p h. absurd (false≢true h);
}

pub loop-i-preserved : goal.loop-i-preserved
loop-i-preserved c =
    let next = possible-next c.args.self.now c.loop-i.i c.at-choice.result c.loop-i.possible c.put_last.new.set c.at-choice.ensures.value (c.requires c.loop-i.i c.at-choice.result c.at-choice.ensures.value) c.loop-i.invariant.some c.loop-i.invariant.last c.put_last.ensures in
    record { some = next.0; last = next.1 }

pub returns : goal.returns
returns c = subst (λ cs. ArePossible (lines_in cs) c.loop-i.possible) (take_all c.loop-i.i c.args.self.now (omega (arith, c.loop-i-test.false, c.len-i-end.ensures))) c.loop-i.invariant.some
