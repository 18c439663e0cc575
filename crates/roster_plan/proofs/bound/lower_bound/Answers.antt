use Rattle.std.proofs.Common.{◌≡◌, ◌+◌, ◌-◌, ◌<◌, ℕ, length, ℤ, ◌+ℤ◌, ◌≤ℤ◌, w64, to_z, of_z, sym, ap, subst, ◌∙◌, FitsSigned, rules, arith}
use Rattle.std.proofs.lemmas.Int.{to_z-of_z, ints}
use Rattle.roster_model.specs.Costs.{missed_targets}
use Rattle.roster_plan.proofs.FloorLemmas.{cost_behind, is_bound, nothing_behind, one_more}
use Rattle.roster_plan.proofs.bound.lower_bound.Goals as goal

pub loop-p-init : goal.loop-p-init
loop-p-init c =
    let problem = c.args.problem.now in
    let missed : ℤ = c.missed_by_others-bound.result in
    let low = c.missed_by_others-bound.ensures.low in
    let high = c.missed_by_others-bound.ensures.high in
    let fits : FitsSigned w64 missed = search rules in
    let told : to_z w64 (of_z w64 missed) ≡ missed = to_z-of_z w64 missed fits in
    let count : length c.pairings-p.result.now ≡ length problem.pairings =
    ap length c.pairings-p.ensures.value in
    record {
      inside = omega (arith, count);
      within = (omega (arith, ints, low, told), omega (arith, ints, high, told));
      below = λ places roster home. subst (λ z. z ≤ℤ (cost_behind problem (length c.pairings-p.result.now) places +ℤ missed_targets problem places)) (sym told)
          (nothing_behind problem (length c.pairings-p.result.now) (missed_targets problem places) missed places roster count (c.missed_by_others-bound.ensures.below places home));
    }

pub loop-p-preserved : goal.loop-p-preserved
loop-p-preserved c =
    let problem = c.args.problem.now in
    let p : ℕ = c.loop-p.p - 1 in
    let before : c.loop-p.p ≡ p + 1 = omega (arith, c.loop-p-test.true) in
    let inside : p < length problem.pairings = omega (arith, c.loop-p.invariant.inside, before) in
    let bound : ℤ = to_z w64 c.loop-p.bound-bits in
    let floor : ℤ = c.floor-bound.result in
    let few = c.floor-bound.ensures.within in
    let low = c.loop-p.invariant.within.0 in
    let high = c.loop-p.invariant.within.1 in
    let most = c.is_sound.ensures.sound.pairings in
    let floor_fits : FitsSigned w64 floor = search rules in
    let floor_told : to_z w64 (of_z w64 floor) ≡ floor = to_z-of_z w64 floor floor_fits in
    let sum : ℤ = bound +ℤ to_z w64 (of_z w64 floor) in
    let sum_fits : FitsSigned w64 sum = search rules in
    let told : to_z w64 (of_z w64 sum) ≡ bound +ℤ floor =
    to_z-of_z w64 sum sum_fits ∙ ap (λ z. bound +ℤ z) floor_told in
    record {
      inside = omega arith;
      within = (omega (arith, ints, low, high, few.0, few.1, told, before, c.loop-p.invariant.inside), omega (arith, ints, low, high, few.0, few.1, told, before, c.loop-p.invariant.inside));
      below = λ places roster home. subst (λ z. z ≤ℤ (cost_behind problem p places +ℤ missed_targets problem places)) (sym told)
          (one_more problem c.args.base p floor bound (missed_targets problem places) places
          (λ k set part parts legal. c.part_of_legal_is_legal.ensures problem k set part c.is_sound.ensures.ordered c.is_sound.ensures.timed parts legal)
          roster home inside c.floor-bound.ensures
          (subst (λ q. bound ≤ℤ (cost_behind problem q places +ℤ missed_targets problem places)) before (c.loop-p.invariant.below places roster home)));
    }

pub returns : goal.returns
returns c =
    is_bound c.args.problem.now c.args.base c.loop-p.p (to_z w64 c.loop-p.bound-bits)
    (omega (arith, c.loop-p-test.false)) c.loop-p.invariant.below
