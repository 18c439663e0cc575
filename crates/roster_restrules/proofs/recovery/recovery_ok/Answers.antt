use Rattle.std.proofs.Common.{◌≡◌, ◌+◌, ◌-◌, ap, subst, sym, refl, inl, inr, arith}
use Rattle.std.proofs.lemmas.Bool.{cases_eq}
use Rattle.std.proofs.lemmas.Option.{slice_get_within}
use Rattle.roster_model.specs.records.Duty.{Duty}
use Rattle.roster_restrules.proofs.Blocks.{ends_in_block}
use Rattle.roster_restrules.specs.Block.{EndsInTime, IsBlock}
use Rattle.roster_restrules.proofs.recovery.recovery_ok.Goals as goal

pub loop-i-preserved : goal.loop-i-preserved
loop-i-preserved c =
    let days = c.args.days.now in
    let list = c.args.list.now in
    let i = c.loop-i.i in
    let block = c.first_of_block-first.ensures in
    let next : i ≡ i + 1 - 1 = omega arith in
    let report = ap (λ (d : Duty). d.report) c.begun.view_is in
    let release = ap (λ (d : Duty). d.release) c.ended.view_is in
    let in_time = c.ends_in_time.ensures.0 c.if-not-ends_in_time.false in
    let here =
    ends_in_block days list c.first_of_block-first.result i _ _ c.requires block
    c.duty-begun.ensures c.duty-ended.ensures
    (λ late.
    let soon = in_time (omega (arith, c.month_start-month_start.ensures, release, late)) in
    omega (arith, soon, report, release)) in
    record {
      block = subst (IsBlock days list c.first_of_block-first.result) next block;
      kept = λ j below.
          elim (cases_eq j i) [
            | inl same ↦ subst (EndsInTime days list) (sym same) here
            | inr apart ↦ c.loop-i.invariant.kept j (omega arith)
          ];
    }

pub returns : goal.returns
returns c = (
  λ _ i j a b order first second none late.
      let inside = slice_get_within c.args.list.now j b second in
      c.loop-i.invariant.kept j (omega (arith, c.loop-i-test.false, c.len-i-end.ensures.value, inside)) i a b order first second none late,
  λ _. refl,
)
