-- From when on a rest is recurrent.
use Rattle.std.proofs.Common.{◌≡◌, ℕ, zero, suc, ◌+◌, ◌-◌, ◌<◌, ◌≤◌, Bool, true, false, cond, leb-true, length, get_or, refl, sym, subst, max, inl, inr, arith}
use Rattle.std.proofs.lemmas.Bool.{cases_lt, lt-leb, le-leb, false≢true, false_from_ne_true}
use Rattle.roster_model.proofs.WindowLemmas.{ten-later}
use Rattle.roster_model.specs.Calendar.{Days, IsTable, common}
use Rattle.roster_model.specs.declared.limits.TheConstants.{LAST_INSTANT}
use Rattle.roster_model.specs.declared.profile.TheConstants.{NIGHT_REST, RECURRENT_NIGHTS, RECURRENT_REST}
use Rattle.roster_model.specs.Rules.Recovery.{holds_night}
use Rattle.roster_restrules.specs.Times.{IsRestedBy, can_hold, held_by}
use Rattle.roster_restrules.proofs.Nights.{count_below, count-more, count-rises, count-same}

-- ---- counts

one-fewer : (p q : Bool) → (p ≡ true → q ≡ true) → cond p 1 0 ≤ cond q 1 0
one-fewer true true more = omega arith
one-fewer true false more = absurd (false≢true (more refl))
one-fewer false true more = omega arith
one-fewer false false more = omega arith

-- if each number below n that passes the first test passes the second
count-fewer : (p q : ℕ → Bool) (n : ℕ) → ((i : ℕ) → i < n → p i ≡ true → q i ≡ true)
    → count_below p n ≤ count_below q n
count-fewer p q zero more = omega arith
count-fewer p q (suc n) more =
    let next : suc n ≡ n + 1 = omega arith in
    let before = count-fewer p q n (λ i l. more i (omega arith)) in
    let here = one-fewer (p n) (q n) (more n (omega arith)) in
    subst (λ m. count_below p m ≤ count_below q m) (sym next)
    (omega (arith, count-more p n, count-more q n, before, here))

-- ---- one night

enough : (from to ten eight : ℕ) → NIGHT_REST ≤ common from to ten eight
    → (max from ten + NIGHT_REST ≤ eight) × (max from ten + NIGHT_REST ≤ to)
enough from to ten eight h = (omega arith, omega arith)

is_enough : (from to ten eight : ℕ) → max from ten + NIGHT_REST ≤ eight → max from ten + NIGHT_REST ≤ to
    → NIGHT_REST ≤ common from to ten eight
is_enough from to ten eight first second = omega arith

held : (days : Days) (from to i : ℕ) → holds_night days from to i ≡ true
    → (can_hold days from i ≡ true) × (held_by days from i ≤ to)
held days from to i h =
    let ten = get_or days.ten i 0 in
    let eight = get_or days.eight (i + 1) 0 in
    let both = enough from to ten eight (leb-true NIGHT_REST (common from to ten eight) h) in
    (le-leb (held_by days from i) eight both.0, both.1)

holds : (days : Days) (from to i : ℕ) → can_hold days from i ≡ true → held_by days from i ≤ to
    → holds_night days from to i ≡ true
holds days from to i h reached =
    let ten = get_or days.ten i 0 in
    let eight = get_or days.eight (i + 1) 0 in
    le-leb NIGHT_REST (common from to ten eight)
    (is_enough from to ten eight (leb-true (held_by days from i) eight h) reached)

-- a night that ends by the first instant can't be held
pub cannot_hold : (days : Days) (from i : ℕ) → get_or days.eight (i + 1) 0 ≤ from
    → can_hold days from i ≡ false
cannot_hold days from i h = lt-leb (held_by days from i) (get_or days.eight (i + 1) 0) (omega arith)

held-later : (days : Days) → IsTable days → (from i j : ℕ) → i ≤ j → j < length days.eight
    → held_by days from i ≤ held_by days from j
held-later days table from i j order within = let later = ten-later days table i j order within in omega arith

-- ---- the nights that it takes

module _ (days : Days) (table : IsTable days) (from : ℕ) where
  -- if the night is the last of as many as it takes
  pub rested-found : (night : ℕ) → night < length days.eight - 1
      → count_below (can_hold days from) (night + 1) ≡ RECURRENT_NIGHTS
      → count_below (can_hold days from) night < RECURRENT_NIGHTS → (rested : ℕ)
      → rested ≡ max (from + RECURRENT_REST) (held_by days from night) → IsRestedBy days from rested
  rested-found night within enough few rested is to last = (
    λ rest. elim (cases_lt to (held_by days from night)) [
      | inl before ↦
          let test = holds_night days from to in
          let none =
          count-same test night (length days.eight - 1) (omega arith)
          (λ k past below. false_from_ne_true (test k) (λ h.
          let later = held-later days table from night k past (omega arith) in
          let reached = (held days from to k h).1 in
          omega arith)) in
          let fewer = count-fewer test (can_hold days from) night (λ i below h. (held days from to i h).0) in
          absurd (omega (arith, rest.nights, none, fewer, few))
      | inr reached ↦ let long = rest.long in omega arith
    ],
    λ reached. record {
      long = omega arith;
      nights =
          let test = holds_night days from to in
          let all = count-fewer (can_hold days from) test (night + 1) (λ i below h. holds days from to i h (let later = held-later days table from i night (omega arith) (omega arith) in omega arith)) in
          let rest = count-rises test (night + 1) (length days.eight - 1) (omega arith) in
          omega (arith, all, rest, enough);
    },
  )

  -- if there are too few
  pub rested-never : count_below (can_hold days from) (length days.eight - 1) < RECURRENT_NIGHTS
      → IsRestedBy days from (LAST_INSTANT + 1)
  rested-never few to last = (
    λ rest.
        let fewer =
        count-fewer (holds_night days from to) (can_hold days from) (length days.eight - 1)
        (λ i below h. (held days from to i h).0) in
        absurd (omega (arith, rest.nights, fewer, few)),
    λ reached. absurd (omega arith),
  )
