-- What flight costs at the end of a chain, state by state.
use Rattle.std.proofs.Common.{◌≡◌, ℕ, ◌+◌, ◌-◌, ◌*◌, ◌<◌, ◌≤◌, List, [], ◌∷◌, ◌++◌, length, ap, ◌∙◌, inl, inr, arith, ℤ, pos, ◌-ℤ◌, ◌*ℤ◌, ◌≤ℤ◌}
use Rattle.std.proofs.Math.Nat.{mul-le-mul_left, mul-le-mul_right}
use Rattle.std.proofs.lemmas.Bool.{cases_lt, lt-ltb, le-ltb}
use Rattle.std.proofs.lemmas.Int.{ints}
use Rattle.std.proofs.lemmas.List.{get_or_append_left, get_or_push, length_push}
use Rattle.roster_model.specs.Costs.{distance, flight_of}
use Rattle.roster_model.specs.Problem.{Problem, target_of, weight_of}
use Rattle.roster_plan_bound.specs.declared.parts.TheConstants.{PARTS}
use Rattle.roster_plan_bound.specs.Chains.{next_state, value_at}
use Rattle.roster_plan_bound.specs.Networks.{missed_at, AreTerms}

-- so much flight, or more, misses the target by no less than it is above it
last_below : (problem : Problem) (k least flight : ℕ) → least ≤ flight
    → (pos PARTS *ℤ pos (weight_of problem * (least - target_of problem k))) ≤ℤ missed_at problem k flight
last_below problem k least flight more =
    let nearer : least - target_of problem k ≤ distance flight (target_of problem k) = omega (arith, more) in
    let weighed = mul-le-mul_left (weight_of problem) nearer in
    omega (arith, ints, weighed)

next_below : (states f : ℕ) → f < states → next_state states 0 f ≡ f
next_below states f inside = rw (lt-ltb (0 + f) states (omega arith)) omega arith

next_above : (last f : ℕ) → last ≤ f → next_state (last + 1) 0 f ≡ last
next_above last f above = elim (cases_lt f (last + 1)) [
  | inl inside ↦ next_below (last + 1) f inside ∙ omega (arith, inside, above)
  | inr beyond ↦ rw (le-ltb (0 + f) (last + 1) (omega arith)) omega arith
]

-- the states that are told apart, and the last one behind
pub terms_are : (problem : Problem) (k step last fixed : ℕ) (front terms : List ℤ) (end : ℤ)
    → terms ≡ front ++ end ∷ [] → length front ≡ last → fixed ≡ flight_of problem k []
    → ((f : ℕ) → f < last → value_at front f ≡ missed_at problem k (fixed + f * step) -ℤ missed_at problem k fixed)
    → end ≡ (pos PARTS *ℤ pos (weight_of problem * ((fixed + last * step) - target_of problem k))) -ℤ missed_at problem k fixed
    → AreTerms problem k step terms
terms_are problem k step last fixed front terms end pushed long none each ends steps =
    let count : length terms ≡ last + 1 = ap length pushed ∙ length_push front end ∙ ap (λ n. n + 1) long in
    let idle : missed_at problem k fixed ≡ missed_at problem k (flight_of problem k []) =
    ap (missed_at problem k) none in
    let flight : missed_at problem k (fixed + steps * step)
    ≡ missed_at problem k (flight_of problem k [] + steps * step) =
    ap (λ f. missed_at problem k (f + steps * step)) none in
    elim (cases_lt steps last) [
      | inl below ↦
          let at : value_at terms (next_state (length terms) 0 steps) ≡ value_at front steps =
          ap (value_at terms) (next_below (length terms) steps (omega (arith, count, below)))
          ∙ ap (λ (xs : List ℤ). value_at xs steps) pushed
          ∙ get_or_append_left front (end ∷ []) (pos 0) steps (omega (arith, long, below)) in
          omega (arith, ints, at, each steps below, idle, flight)
      | inr above ↦
          let there : next_state (length terms) 0 steps ≡ last =
          ap (λ n. next_state n 0 steps) count ∙ next_above last steps above in
          let at : value_at terms (next_state (length terms) 0 steps) ≡ end =
          ap (value_at terms) there ∙ ap (λ (xs : List ℤ). value_at xs last) pushed
          ∙ get_or_push front end (pos 0) last long in
          let more = mul-le-mul_right step above in
          let below =
          last_below problem k (fixed + last * step) (fixed + steps * step) (omega (arith, more)) in
          omega (arith, ints, at, ends, below, idle, flight)
    ]
