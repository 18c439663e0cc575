use Rattle.std.proofs.Common.{◌≡◌, ◌+◌, ◌^◌, length, ℤ, ◌+ℤ◌, ◌≤ℤ◌, pos, w64, to_z, of_z, ap, sym, subst, ◌∙◌, FitsSigned, rules, arith}
use Rattle.std.specs.Int.{int_min}
use Rattle.std.proofs.lemmas.Int.{int_min_is, to_z-of_z, ints}
use Rattle.roster_plan.proofs.FloorLemmas.{all_miss, missed_until, one_misses_more}
use Rattle.roster_plan.proofs.bound.missed_by_others.Goals as goal

pub loop-k-preserved : goal.loop-k-preserved
loop-k-preserved c =
    let problem = c.args.problem.now in
    let k = c.loop-k.k in
    let missed : ℤ = to_z w64 c.loop-k.missed-bits in
    let more : ℤ = c.missed_by.result in
    let sum : ℤ = c.min-missed.result in
    let low = c.loop-k.invariant.low in
    let high = c.loop-k.invariant.high in
    let more_low = c.missed_by.ensures.low in
    let more_high = c.missed_by.ensures.high in
    let more_fits : FitsSigned w64 more = search rules in
    let more_told : to_z w64 (of_z w64 more) ≡ more = to_z-of_z w64 more more_fits in
    let both : ℤ = missed +ℤ to_z w64 (of_z w64 more) in
    let both_fits : FitsSigned w64 both = search rules in
    let both_told : to_z w64 (of_z w64 both) ≡ missed +ℤ more =
    to_z-of_z w64 both both_fits ∙ ap (λ z. missed +ℤ z) more_told in
    let least : sum ≡ int_min (missed +ℤ more) (pos (2 ^ 60)) =
    c.min-missed.ensures.value ∙ ap (λ z. int_min z (pos (2 ^ 60))) both_told in
    let is = int_min_is (missed +ℤ more) (pos (2 ^ 60)) in
    let under : sum ≤ℤ (missed +ℤ more) = omega (arith, ints, least, is) in
    let sum_low : pos 0 ≤ℤ sum = omega (arith, ints, least, is, low, more_low) in
    let sum_high : sum ≤ℤ pos (2 ^ 60) = omega (arith, ints, least, is) in
    let fits : FitsSigned w64 sum = search rules in
    let told : to_z w64 (of_z w64 sum) ≡ sum = to_z-of_z w64 sum fits in
    record {
      below = λ places home. subst (λ z. z ≤ℤ pos (missed_until problem places (k + 1))) (sym told)
          (one_misses_more problem places k missed more sum (c.loop-k.invariant.below places home) (c.missed_by.ensures.below places home) under);
      low = subst (λ z. pos 0 ≤ℤ z) (sym told) sum_low;
      high = subst (λ z. z ≤ℤ pos (2 ^ 60)) (sym told) sum_high;
    }

pub returns-clause-below : goal.returns-clause-below
returns-clause-below c places home =
    let all : c.loop-k.k ≡ length c.args.problem.now.persons =
    omega (arith, c.loop-k-test.false, c.loop-k.auto.k-end, ap length c.persons-k-end.ensures.value) in
    all_miss c.args.problem.now places (to_z w64 c.loop-k.missed-bits) (subst (λ n. to_z w64 c.loop-k.missed-bits ≤ℤ pos (missed_until c.args.problem.now places n)) all (c.loop-k.invariant.below places home))
