use Rattle.std.proofs.Common.{◌+◌, ◌≤◌, get_or, pos, ◌+ℤ◌, SFits, w64, to_z, of_z, sym, arith}
use Rattle.std.proofs.lemmas.Int.{ints, to_z-of_z}
use Rattle.roster_model.specs.declared.limits.TheConstants.{MOST_PAIRINGS}
use Rattle.roster_model.proofs.CostLemmas.{total-nil}
use Rattle.roster_search_fixing.proofs.Totals.{total-take_more}
use Rattle.roster_search_fixing.proofs.bounding.sum_of.Goals as goal

pub loop-value-init : goal.loop-value-init
loop-value-init c = record {
  so_far = sym (total-nil (λ value. value));
  bound = (omega (arith, ints), omega (arith, ints));
}

pub loop-value-preserved : goal.loop-value-preserved
loop-value-preserved c =
    let i = c.loop-value.value-index in
    let values = c.args.values.now in
    let here = c.requires.within i (pos 0) c.loop-value-test.true in
    let fits : SFits w64 (get_or values i (pos 0)) = omega (arith, ints, here.0, here.1) in
    let item = to_z-of_z w64 (get_or values i (pos 0)) fits in
    let more = total-take_more values i c.loop-value-test.true in
    let low = c.loop-value.invariant.bound.0 in
    let high = c.loop-value.invariant.bound.1 in
    let few : i + 1 ≤ MOST_PAIRINGS = omega (arith, c.requires.few, c.loop-value-test.true) in
    let both : SFits w64 (to_z w64 c.loop-value.sum-bits +ℤ to_z w64 (of_z w64 (get_or values i (pos 0)))) =
    omega (arith, ints, here.0, here.1, item, low, high, few) in
    let new =
    to_z-of_z w64
    (to_z w64 c.loop-value.sum-bits +ℤ to_z w64 (of_z w64 (get_or values i (pos 0)))) both in
    record {
      so_far = omega (arith, ints, new, item, more, c.loop-value.invariant.so_far);
      bound = (omega (arith, ints, new, item, here.0, low), omega (arith, ints, new, item, here.1, high));
    }
