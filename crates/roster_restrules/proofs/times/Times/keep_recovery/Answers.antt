use Rattle.std.proofs.Common.{◌≡◌, ◌+◌, ◌-◌, ap, ◌∙◌, refl, sym, subst, inl, inr, arith}
use Rattle.std.proofs.lemmas.Bool.{both_ways, cases_eq, false≢true}
use Rattle.std.proofs.lemmas.Option.{slice_get_within}
use Rattle.roster_model.specs.Calendar.{month_start}
use Rattle.roster_problem.specs.Duties.{picked}
use Rattle.roster_problem.proofs.PositionLists.{length-picked}
use Rattle.roster_restrules.specs.Block.{EndsInTime, IsBlock}
use Rattle.roster_restrules.specs.Times.{Timed}
use Rattle.roster_restrules.proofs.TimedLists.{in_time, not_in_time}
use Rattle.roster_restrules.proofs.times.Times.keep_recovery.Goals as goal

pub loop-i-preserved : goal.loop-i-preserved
loop-i-preserved c =
    let timed = c.args.self.now in
    let list = picked timed.duties c.args.positions.now in
    let i = c.loop-i.i in
    let block = c.first_of_block-first.ensures in
    let start : c.self.inside.month_start ≡ month_start timed.days =
    c.self.invariant.begins ∙ ap (λ (t : Timed). month_start t.days) c.self.view_is in
    let next : i ≡ i + 1 - 1 = omega arith in
    let here = in_time timed c.args.positions.now c.requires.within c.self.inside.month_start c.first_of_block-first.result i c.at-begun.result c.at-ended.result c.loop-i-test.true start c.requires.ordered block c.at-begun.ensures c.at-ended.ensures (c.ends_in_time.ensures.0 c.if-not-ends_in_time.false) in
    record {
      block = subst (IsBlock timed.days list c.first_of_block-first.result) next block;
      kept = λ j below.
          elim (cases_eq j i) [
            | inl same ↦ subst (EndsInTime timed.days list) (sym same) here
            | inr apart ↦ c.loop-i.invariant.kept j (omega arith)
          ];
    }

pub returns-then-not-ends_in_time : goal.returns-then-not-ends_in_time
returns-then-not-ends_in_time c = (
  λ h. absurd (false≢true h),
  λ keeps.
      let timed = c.args.self.now in
      let start : c.self.inside.month_start ≡ month_start timed.days =
      c.self.invariant.begins ∙ ap (λ (t : Timed). month_start t.days) c.self.view_is in
      absurd (both_ways _ c.if-not-ends_in_time.true (c.ends_in_time.ensures.1 (not_in_time timed c.args.positions.now c.requires.within c.self.inside.month_start c.first_of_block-first.result c.loop-i.i c.at-begun.result c.at-ended.result c.loop-i-test.true start c.first_of_block-first.ensures c.at-begun.ensures c.at-ended.ensures keeps))),
)

pub returns : goal.returns
returns c = (
  λ _ i j a b order first second none late.
      let inside = slice_get_within (picked c.args.self.now.duties c.args.positions.now) j b second in
      let long = length-picked c.args.self.now.duties c.args.positions.now c.requires.within in
      c.loop-i.invariant.kept j
      (omega (arith, c.loop-i-test.false, inside, long)) i a b order first second none late,
  λ _. refl,
)
