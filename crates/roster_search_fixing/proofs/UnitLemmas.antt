-- Which costs are so many units from another one.
use Rattle.std.proofs.Common.{◌≡◌, ℕ, ◌+◌, ◌/◌, ◌<◌, ◌≤◌, inl, inr, ℤ, pos, negsuc, ◌+ℤ◌, ◌-ℤ◌, ◌≤ℤ◌, ◌<ℤ◌, sym, ap₂, ◌∙◌, subst, arith}
use Rattle.std.proofs.Math.Nat.{mul-le-mul_left}
use Rattle.std.specs.Int.{int_rem_euclid}
use Rattle.std.proofs.lemmas.Bool.{cases_lt}
use Rattle.std.proofs.lemmas.Int.{ints}
use Rattle.roster_search_regions.specs.Units.{IsMultiple}

-- what is left over by division
pub rest_multiple : (unit : ℕ) (z : ℤ) → 0 < unit → IsMultiple unit (z -ℤ int_rem_euclid z (pos unit))
rest_multiple unit (pos a) some = record { more = a / unit; less = 0; is = omega (arith, ints) }
rest_multiple unit (negsuc a) some = record { more = 0; less = a / unit + 1; is = omega (arith, ints) }

pub rest_low : (unit : ℕ) (z : ℤ) → 0 < unit → pos 0 ≤ℤ int_rem_euclid z (pos unit)
rest_low unit (pos a) some = omega (arith, ints)
rest_low unit (negsuc a) some = omega (arith, ints)

pub rest_high : (unit : ℕ) (z : ℤ) → 0 < unit → int_rem_euclid z (pos unit) <ℤ pos unit
rest_high unit (pos a) some = omega (arith, ints)
rest_high unit (negsuc a) some = omega (arith, ints)

-- the same, of a number that is told
pub rest_of_division : (unit : ℕ) (z above divisor rest : ℤ) → rest ≡ int_rem_euclid above divisor → 0 < unit
    → above ≡ z → divisor ≡ pos unit → IsMultiple unit (z -ℤ rest)
rest_of_division unit z above divisor rest is some from by =
    let same : rest ≡ int_rem_euclid z (pos unit) = is ∙ ap₂ int_rem_euclid from by in
    subst (λ (r : ℤ). IsMultiple unit (z -ℤ r)) (sym same) (rest_multiple unit z some)

-- a multiple up to a number is up to the next lower one
pub no_more : (unit : ℕ) (amount z rest : ℤ) → IsMultiple unit amount → IsMultiple unit (z -ℤ rest)
    → rest <ℤ pos unit → amount ≤ℤ z → amount ≤ℤ (z -ℤ rest)
no_more unit amount z rest x y high within =
    let mine : ℕ = x.more + y.less in
    let other : ℕ = y.more + x.less in
    elim (cases_lt mine (other + 1)) [
      | inl less ↦
          let few : mine ≤ other = omega arith in
          omega (arith, ints, x.is, y.is, mul-le-mul_left unit few)
      | inr more ↦ absurd (omega (arith, ints, x.is, y.is, high, within, mul-le-mul_left unit more))
    ]

-- and one above it is no less than the next higher one
pub no_less : (unit : ℕ) (amount z rest : ℤ) → IsMultiple unit amount → IsMultiple unit (z -ℤ rest)
    → pos 0 ≤ℤ rest → z <ℤ amount → (z +ℤ (pos unit -ℤ rest)) ≤ℤ amount
no_less unit amount z rest x y low above =
    let mine : ℕ = x.more + y.less in
    let other : ℕ = y.more + x.less in
    elim (cases_lt other mine) [
      | inl less ↦
          let many : other + 1 ≤ mine = omega arith in
          omega (arith, ints, x.is, y.is, mul-le-mul_left unit many)
      | inr more ↦ absurd (omega (arith, ints, x.is, y.is, low, above, mul-le-mul_left unit more))
    ]
