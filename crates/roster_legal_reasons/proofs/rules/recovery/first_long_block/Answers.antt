use Rattle.std.proofs.Common.{◌≡◌, ◌+◌, ◌-◌, Some, subst, sym, inl, inr, arith}
use Rattle.std.specs.Prelude.{slice_get}
use Rattle.std.proofs.lemmas.Bool.{cases_eq}
use Rattle.std.proofs.lemmas.Option.{slice_get_within}
use Rattle.roster_restrules.proofs.Blocks.{ends_in_block}
use Rattle.roster_restrules.specs.Block.{EndsInTime, IsBlock}
use Rattle.roster_legal_reasons.specs.Reasons.Recovery.{IsLong}
use Rattle.roster_legal_reasons.proofs.rules.recovery.first_long_block.Goals as goal

pub returns-in-Some : goal.returns-in-Some
returns-in-Some c =
    let days = c.args.days.now in
    let list = c.args.list.now in
    let block = c.in-Some.block in
    let same = c.in-Some.ensures in
    record {
      a = c.duty-begun.result.now;
      b = c.duty-ended.result.now;
      at_first =
          subst (λ i. slice_get list i ≡ Some c.duty-begun.result.now) (sym same.0) c.duty-begun.ensures;
      at_last =
          subst (λ i. slice_get list i ≡ Some c.duty-ended.result.now) (sym same.1) c.duty-ended.ensures;
      block = subst (λ i. IsBlock days list i block.last) (sym same.0) (subst (λ i. IsBlock days list c.first_of_block-first.result i) (sym same.1) c.first_of_block-first.ensures);
      long = subst (λ start. IsLong start c.duty-begun.result.now c.duty-ended.result.now block.minutes) c.month_start-month_start.ensures same.2;
      first = λ j before. c.loop-i.invariant.kept j (omega (arith, before, same.1));
    }

pub loop-i-preserved : goal.loop-i-preserved
loop-i-preserved c =
    let days = c.args.days.now in
    let list = c.args.list.now in
    let i = c.loop-i.i in
    let block = c.first_of_block-first.ensures in
    let next : i ≡ i + 1 - 1 = omega arith in
    let here = ends_in_block days list c.first_of_block-first.result i _ _ c.requires block c.duty-begun.ensures c.duty-ended.ensures
    (λ late. c.in_default.ensures (omega (arith, c.month_start-month_start.ensures, late))) in
    record {
      block = subst (IsBlock days list c.first_of_block-first.result) next block;
      kept = λ j below.
          elim (cases_eq j i) [
            | inl same ↦ subst (EndsInTime days list) (sym same) here
            | inr apart ↦ c.loop-i.invariant.kept j (omega arith)
          ];
    }

pub returns : goal.returns
returns c i j a b order first second none late =
    let inside = slice_get_within c.args.list.now j b second in
    c.loop-i.invariant.kept j
    (omega (arith, c.loop-i-test.false, c.len-i-end.ensures.value, inside)) i a b order first second none late
