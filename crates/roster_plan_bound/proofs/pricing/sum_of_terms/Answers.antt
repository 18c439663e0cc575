use Rattle.std.proofs.Common.{◌≡◌, ℕ, ◌+◌, ◌-◌, ◌≤◌, length, ℤ, pos, ◌+ℤ◌, ◌≤ℤ◌, ap, ◌∙◌, subst, sym, arith, w64, to_z, of_z, FitsSigned, rules}
use Rattle.std.proofs.lemmas.Int.{ints, to_z-of_z}
use Rattle.roster_cost.specs.Amounts.{IsWithin}
use Rattle.roster_plan_bound.specs.declared.parts.TheConstants.{MOST_PLAN_PRICE}
use Rattle.roster_plan_bound.specs.Reduced.{price_at, shares_behind, IsTermOf}
use Rattle.roster_plan_bound.proofs.ShareLemmas.{nothing_behind, one_more}
use Rattle.roster_plan_bound.proofs.pricing.sum_of_terms.Goals as goal

pub loop-back-init : goal.loop-back-init
loop-back-init c = record {
  few = omega arith;
  below = λ places roster home. nothing_behind c.args.problem.now c.args.prices.now (length c.pairings-count.result.now - 0) places (omega (arith, ap length c.pairings-count.ensures.value));
  within = (omega (arith, ints), omega (arith, ints));
}

pub loop-back-preserved : goal.loop-back-preserved
loop-back-preserved c =
    let problem = c.args.problem.now in
    let inv = c.loop-back.invariant in
    let count = ap length c.pairings-count.ensures.value in
    let few = c.is_sound.ensures.sound.pairings in
    let sum : ℤ = to_z w64 c.loop-back.sum-bits in
    let term : ℤ = c.term_of-sum.result in
    let within = c.term_of-sum.ensures.within in
    let fits : FitsSigned w64 term = search rules in
    let told : to_z w64 (of_z w64 term) ≡ term = to_z-of_z w64 term fits in
    let low = inv.within.0 in
    let high = inv.within.1 in
    let whole : ℤ = sum +ℤ to_z w64 (of_z w64 term) in
    let whole_fits : FitsSigned w64 whole = search rules in
    let whole_told : to_z w64 (of_z w64 whole) ≡ sum +ℤ term =
    to_z-of_z w64 whole whole_fits ∙ ap (λ z. sum +ℤ z) told in
    let next : ℕ = length c.pairings-count.result.now - (c.loop-back.back + 1) in
    let is : next + 1 ≡ length c.pairings-count.result.now - c.loop-back.back =
    omega (arith, c.loop-back-test.true) in
    let place : length c.pairings-count.result.now - 1 - c.loop-back.back ≡ next = omega arith in
    let price : ℤ = price_at c.args.prices.now (length c.pairings-count.result.now - 1 - c.loop-back.back) in
    let price_within : IsWithin MOST_PLAN_PRICE price =
    c.requires.within (length c.pairings-count.result.now - 1 - c.loop-back.back) (pos 0)
    (omega (arith, count, c.requires.covers, c.loop-back-test.true)) in
    let price_fits : FitsSigned w64 price = search rules in
    let of_price =
    subst
    (λ y. IsTermOf problem c.args.base (length c.pairings-count.result.now - 1 - c.loop-back.back) y term)
    (to_z-of_z w64 price price_fits) c.term_of-sum.ensures.term in
    let is_term =
    subst (λ q. IsTermOf problem c.args.base q (price_at c.args.prices.now q) term) place of_price in
    record {
      few = omega (arith, c.loop-back-test.true);
      below = λ places roster home. subst (λ z. z ≤ℤ shares_behind problem c.args.prices.now next places) (sym whole_told)
          (one_more problem c.args.prices.now c.args.base next term sum places roster home (omega (arith, count, c.loop-back-test.true)) is_term (subst (λ q. sum ≤ℤ shares_behind problem c.args.prices.now q places) (sym is) (inv.below places roster home)));
      within =
          (omega (arith, ints, low, within.0, whole_told), omega (arith, ints, high, within.1, whole_told));
    }

pub returns-clause-least : goal.returns-clause-least
returns-clause-least c places roster home =
    subst (λ q. to_z w64 c.loop-back.sum-bits ≤ℤ shares_behind c.args.problem.now c.args.prices.now q places)
    (nothing_left (length c.pairings-count.result.now) c.loop-back.back c.loop-back-test.false)
    (c.loop-back.invariant.below places roster home)
  where
    nothing_left : (n i : ℕ) → n ≤ i → n - i ≡ 0
    nothing_left n i l = omega arith
