-- What it costs to miss a target.
use Rattle.std.proofs.Common.{◌≡◌, ℕ, zero, suc, ◌+◌, ◌-◌, ◌*◌, ◌≤◌, ◌⊎◌, [], ap, ◌∙◌, subst, sym, inl, inr, arith, ℤ, pos, negsuc, neg_ℤ, ◌+ℤ◌, ◌-ℤ◌, ◌*ℤ◌, ◌≤ℤ◌, w64, to_z, of_z}
use Rattle.std.proofs.Math.Nat.{mul-le-mul_left, mul-add}
use Rattle.std.specs.Prelude.{unsigned_abs}
use Rattle.std.proofs.lemmas.Bool.{cases_lt}
use Rattle.std.proofs.lemmas.Int.{ints}
use Rattle.roster_model.specs.declared.limits.TheConstants.{MOST_WEIGHT}
use Rattle.roster_model.specs.declared.profile.TheConstants.{MOST_FLIGHT_IN_A_YEAR}
use Rattle.roster_model.specs.Costs.{distance, flight_of}
use Rattle.roster_model.specs.Problem.{Problem, target_of, weight_of}
use Rattle.roster_cost.specs.Amounts.{IsWithin}
use Rattle.roster_plan_bound.specs.declared.parts.TheConstants.{MOST_FIXED, MOST_SHORT, PARTS}
use Rattle.roster_plan_bound.specs.Networks.{missed_at}
use Rattle.roster_plan_bound.specs.Prospects.{short_of, term_of, IsFixed}
use Rattle.roster_plan_bound.proofs.ProductLemmas.{abs_within, pos_within, product_less, product_more, times_more, times_plus, times_within, told_in, within_abs}

pub distance_abs : (a b : ℕ) → unsigned_abs (pos a -ℤ pos b) ≡ distance a b
distance_abs a b =
    elim (cases_lt a b) [
      | inl below ↦
          let here : pos a -ℤ pos b ≡ negsuc (b - a - 1) = omega (arith, ints, below) in
          ap unsigned_abs here ∙ omega (arith, below)
      | inr above ↦
          let here : pos a -ℤ pos b ≡ pos (a - b) = omega (arith, ints, above) in
          ap unsigned_abs here ∙ omega (arith, above)
    ]

missed_is : (problem : Problem) (k flight : ℕ)
    → missed_at problem k flight ≡ pos (PARTS * weight_of problem * distance flight (target_of problem k))
missed_is problem k flight = omega (arith, ints)

-- in words of the code
weighed_is : (problem : Problem) (k flight : ℕ) (weight away : ℤ) → weight ≡ pos (PARTS * weight_of problem)
    → away ≡ pos flight -ℤ pos (target_of problem k)
    → weight *ℤ pos (unsigned_abs away) ≡ missed_at problem k flight
weighed_is problem k flight weight away is far =
    let apart : unsigned_abs away ≡ distance flight (target_of problem k) =
    ap unsigned_abs far ∙ distance_abs flight (target_of problem k) in
    ap (λ z. z *ℤ pos (unsigned_abs away)) is
    ∙ ap (λ n. pos (PARTS * weight_of problem) *ℤ pos n) apart
    ∙ sym (missed_is problem k flight)

pub weight_told : (problem : Problem) (weight : ℤ) → weight ≡ pos (PARTS * weight_of problem)
    → weight_of problem ≤ MOST_WEIGHT → to_z w64 (of_z w64 weight) ≡ pos (PARTS * weight_of problem)
weight_told problem weight is light =
    let within = pos_within (PARTS * MOST_WEIGHT) (PARTS * weight_of problem) (omega (arith, light)) in
    ap (λ z. to_z w64 (of_z w64 z)) is ∙ told_in (PARTS * MOST_WEIGHT) (pos (PARTS * weight_of problem)) within (omega arith)

pub fixed_is : (problem : Problem) (k : ℕ) (weight short : ℤ) → weight ≡ pos (PARTS * weight_of problem)
    → short ≡ short_of problem k
    → weight *ℤ pos (unsigned_abs short) ≡ missed_at problem k (flight_of problem k [])
fixed_is problem k weight short is far = weighed_is problem k (flight_of problem k []) weight short is far

pub term_is : (problem : Problem) (k flight : ℕ) (weight short : ℤ) → weight ≡ pos (PARTS * weight_of problem)
    → short ≡ short_of problem k
    → (weight *ℤ pos (unsigned_abs (short +ℤ pos flight))) -ℤ (weight *ℤ pos (unsigned_abs short)) ≡ term_of problem k flight
term_is problem k flight weight short is far =
    let more : short +ℤ pos flight ≡ pos (flight_of problem k [] + flight) -ℤ pos (target_of problem k) =
    omega (arith, ints, far) in
    let first = weighed_is problem k (flight_of problem k [] + flight) weight (short +ℤ pos flight) is more in
    let second = fixed_is problem k weight short is far in
    omega (arith, ints, first, second)

-- a worth within the weight, at the target
pub fixed_near : (worth weight short : ℤ) (spare : ℕ) (fixed : ℤ) → neg_ℤ weight ≤ℤ worth → worth ≤ℤ weight
    → fixed ≡ (worth *ℤ short) -ℤ (weight *ℤ pos (unsigned_abs short)) → IsFixed worth weight short spare fixed
fixed_near worth (pos m) short spare fixed low high is flight few =
    let away : ℤ = short +ℤ pos flight in
    let own = within_abs (unsigned_abs away) away (omega arith) in
    let most = times_within worth away m (unsigned_abs away) (low, high) own in
    let above = most.1 in
    omega (arith, ints, is, above, times_plus worth short flight)
fixed_near worth (negsuc m) short spare fixed low high is flight few = absurd (omega (arith, ints, low, high))

abs_more : (z : ℤ) (d : ℕ) → unsigned_abs (z +ℤ pos d) ≤ unsigned_abs z + d
abs_more (pos n) d = omega (arith, ints)
abs_more (negsuc n) d =
    elim (cases_lt n d) [
      | inl more ↦
          let here : negsuc n +ℤ pos d ≡ pos (d - suc n) = omega (arith, ints, more) in
          subst (λ z. unsigned_abs z ≤ suc n + d) (sym here) (omega arith)
      | inr less ↦
          let here : negsuc n +ℤ pos d ≡ negsuc (n - d) = omega (arith, ints, less) in
          subst (λ z. unsigned_abs z ≤ suc n + d) (sym here) (omega arith)
    ]

abs_less : (z : ℤ) (d : ℕ) → z ≤ℤ pos 0 → unsigned_abs (z -ℤ pos d) ≡ unsigned_abs z + d
abs_less (pos zero) zero low = omega (arith, ints)
abs_less (pos zero) (suc d) low = omega (arith, ints)
abs_less (pos (suc n)) d low = absurd (omega (arith, ints, low))
abs_less (negsuc n) d low =
    let here : negsuc n -ℤ pos d ≡ negsuc (n + d) = omega (arith, ints) in
    ap unsigned_abs here ∙ omega arith

-- a worth beyond the weight, or any if all flight that may be spared leaves the person below the target: no more
-- flight may be spared
pub fixed_spent : (worth weight short : ℤ) (spare : ℕ) (near fixed : ℤ) → pos 0 ≤ℤ weight → neg_ℤ weight ≤ℤ worth
    → (weight ≤ℤ worth) ⊎ ((short +ℤ pos spare) ≤ℤ pos 0)
    → near ≡ (weight *ℤ pos (unsigned_abs (short +ℤ pos spare))) -ℤ (weight *ℤ pos (unsigned_abs short))
    → fixed ≡ near -ℤ (worth *ℤ pos spare) → IsFixed worth weight short spare fixed
fixed_spent worth (negsuc m) short spare near fixed heavy low one is less flight few = absurd (omega (arith, ints, heavy))
fixed_spent worth (pos m) short spare near fixed heavy low one is less flight few =
    let d : ℕ = spare - flight in
    let there : spare ≡ flight + d = omega (arith, few) in
    let whole : worth *ℤ pos spare ≡ (worth *ℤ pos flight) +ℤ (worth *ℤ pos d) =
    ap (λ n. worth *ℤ pos n) there ∙ times_more worth flight d in
    let away : ℕ = unsigned_abs (short +ℤ pos flight) in
    let last : ℕ = unsigned_abs (short +ℤ pos spare) in
    elim one [
      | inl dear ↦
          let more : short +ℤ pos spare ≡ (short +ℤ pos flight) +ℤ pos d = omega (arith, ints, there) in
          let apart : last ≤ away + d = subst (λ z. unsigned_abs z ≤ away + d) (sym more) (abs_more (short +ℤ pos flight) d) in
          let scaled = mul-le-mul_left m apart in
          let split = mul-add m away d in
          omega (arith, ints, is, less, whole, scaled, split, product_more worth m d dear)
      | inr below ↦
          let fewer : short +ℤ pos flight ≡ (short +ℤ pos spare) -ℤ pos d = omega (arith, ints, there) in
          let apart : away ≡ last + d = ap unsigned_abs fewer ∙ abs_less (short +ℤ pos spare) d below in
          let scaled : m * away ≡ m * (last + d) = ap (λ n. m * n) apart in
          let split = mul-add m last d in
          omega (arith, ints, is, less, whole, scaled, split, product_less worth m d low)
    ]

abs_least : (weight : ℤ) (n : ℕ) → pos 0 ≤ℤ weight → pos 0 ≤ℤ (weight *ℤ pos n)
abs_least (pos m) n some = omega (arith, ints)
abs_least (negsuc m) n some = absurd (omega (arith, ints, some))

-- what it costs if all flight is flown that may be spared
pub spent_within : (weight short : ℤ) (spare : ℕ) → pos 0 ≤ℤ weight → weight ≤ℤ pos (PARTS * MOST_WEIGHT)
    → IsWithin MOST_SHORT short → spare ≤ MOST_FLIGHT_IN_A_YEAR
    → IsWithin MOST_FIXED ((weight *ℤ pos (unsigned_abs (short +ℤ pos spare))) -ℤ (weight *ℤ pos (unsigned_abs short)))
spent_within weight short spare some few near little =
    let heavy : IsWithin (PARTS * MOST_WEIGHT) weight = (omega (arith, ints, some), few) in
    let low_short = near.0 in
    let high_short = near.1 in
    let far : IsWithin (MOST_SHORT + MOST_FLIGHT_IN_A_YEAR) (short +ℤ pos spare) =
    (omega (arith, ints, low_short), omega (arith, ints, high_short, little)) in
    let apart = pos_within (MOST_SHORT + MOST_FLIGHT_IN_A_YEAR) (unsigned_abs (short +ℤ pos spare)) (abs_within (MOST_SHORT + MOST_FLIGHT_IN_A_YEAR) (short +ℤ pos spare) far) in
    let away = pos_within MOST_SHORT (unsigned_abs short) (abs_within MOST_SHORT short near) in
    let first = times_within weight (pos (unsigned_abs (short +ℤ pos spare))) (PARTS * MOST_WEIGHT) (MOST_SHORT + MOST_FLIGHT_IN_A_YEAR) heavy apart in
    let second = times_within weight (pos (unsigned_abs short)) (PARTS * MOST_WEIGHT) MOST_SHORT heavy away in
    let least = abs_least weight (unsigned_abs (short +ℤ pos spare)) some in
    let least_second = abs_least weight (unsigned_abs short) some in
    let high = first.1 in
    let high_second = second.1 in
    (omega (arith, ints, least, high_second), omega (arith, ints, high, least_second))
