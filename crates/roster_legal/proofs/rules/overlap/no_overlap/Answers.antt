use Rattle.std.proofs.Common.{◌≡◌, ◌+◌, ◌-◌, Some, refl, subst, arith}
use Rattle.std.specs.Prelude.{slice_get}
use Rattle.std.proofs.lemmas.Bool.{false≢true, both_ways}
use Rattle.std.proofs.lemmas.Option.{slice_get_within}
use Rattle.roster_legal.proofs.Apart.{in_turn_at, no_overlap_in_turn}
use Rattle.roster_legal.proofs.rules.overlap.no_overlap.Goals as goal

pub returns-then-not-ends_before : goal.returns-then-not-ends_before
returns-then-not-ends_before c = (
  λ h. absurd (false≢true h),
  λ apart.
      let next : c.loop-i.i ≡ c.loop-i.i - 1 + 1 = omega arith in
      let second = subst (λ j. slice_get c.args.list.now j ≡ Some c.duty-in-loop-i.result.now) next c.duty-in-loop-i.ensures in
      let turn =
      in_turn_at c.args.list.now c.requires.ordered c.requires.timed apart
      (c.loop-i.i - 1) c.duty.result.now c.duty-in-loop-i.result.now c.duty.ensures second in
      absurd (both_ways _ c.if-not-ends_before.true (c.ends_before.ensures.1 turn)),
)

pub returns : goal.returns
returns c = (
  λ _. no_overlap_in_turn c.args.list.now c.requires.timed (λ i a b first second.
      let inside = slice_get_within c.args.list.now (i + 1) b second in
      c.loop-i.invariant i a b (omega arith) first second),
  λ _. refl,
)
