-- Sets as ascending lists of places: what they have, and that only this makes two of them equal.
use Rattle.std.proofs.Common.{◌≡◌, ℕ, zero, suc, ◌+◌, ◌<◌, ◌≤◌, Bool, true, false, ◌&&◌, ◌||◌, cond, eqb, eq-eqb, List, [], ◌∷◌, ◌++◌, length, get_or, refl, sym, ap, ◌∙◌, subst, inl, inr, arith}
use Rattle.std.specs.Prelude.{All, Contains, filter}
use Rattle.std.specs.List.Sorted.{IsStrictlyIncreasing}
use Rattle.std.proofs.lemmas.Bool.{cases_eq, cases_order, cases_lt, ne_eqb, both_ways, eqb-true}
use Rattle.std.proofs.lemmas.List.Elements.{All-nil, All-cons, All-head, All-tail, All-weaker, All-push, All-append, All-filter}
use Rattle.std.proofs.lemmas.List.Folds.{list_any_at, list_any-append, Any-from_list_any}
use Rattle.std.proofs.lemmas.Map.Views.{any-filter_same}
use Rattle.roster_model.specs.Rules.{is_among}
use Rattle.roster_model.specs.Places.{places_with, set_of}
use Rattle.roster_model.proofs.PlacesLemmas.{is_among-set_of_past}

-- ---- ascending lists

-- each place is below those that follow it
abbrev pub Ascends : List ℕ → Type 0
Ascends [] = Unit {0}
Ascends (p ∷ set) = All (λ q. p < q) set × Ascends set

tail_rises : (p : ℕ) (set : List ℕ) → IsStrictlyIncreasing (p ∷ set) → IsStrictlyIncreasing set
tail_rises p set rises k inside =
    let next : suc k + 1 ≡ suc (k + 1) = omega arith in
    subst (λ n. get_or set k 0 < get_or (p ∷ set) n 0) next (rises (suc k) (omega arith))

head_below : (p : ℕ) (set : List ℕ) → IsStrictlyIncreasing (p ∷ set) → All (λ q. p < q) set
head_below p [] rises = All-nil (λ q. p < q)
head_below p (q ∷ set) rises =
    let first : p < q = rises 0 (omega arith) in
    All-cons (λ r. p < r) q set first
    (All-weaker (λ r. q < r) (λ r. p < r) (λ r l. omega arith) set (head_below q set (tail_rises p (q ∷ set) rises)))

pub Ascends-from_rising : (set : List ℕ) → IsStrictlyIncreasing set → Ascends set
Ascends-from_rising [] rises = tt
Ascends-from_rising (p ∷ set) rises =
    (head_below p set rises, Ascends-from_rising set (tail_rises p set rises))

pub rising_from_Ascends : (set : List ℕ) → Ascends set → IsStrictlyIncreasing set
rising_from_Ascends [] up k inside = absurd (omega arith)
rising_from_Ascends (p ∷ set) up zero inside = up.0 0 0 (omega arith)
rising_from_Ascends (p ∷ set) up (suc k) inside =
    let next : suc (k + 1) ≡ suc k + 1 = omega arith in
    subst (λ n. get_or set k 0 < get_or (p ∷ set) n 0) next (rising_from_Ascends set up.1 k (omega arith))

pub Ascends-filter : (test : ℕ → Bool) (set : List ℕ) → Ascends set → Ascends (filter test set)
Ascends-filter test [] up = tt
Ascends-filter test (p ∷ set) up =
    let P : Bool → Type 0 = λ b. Ascends (cond b (p ∷ filter test set) (filter test set)) in
    elim (test p) as P [
      | true ↦ (All-filter test (λ q. p < q) set up.0, Ascends-filter test set up.1)
      | false ↦ Ascends-filter test set up.1
    ]

pub Ascends-push : (set : List ℕ) (p : ℕ) → Ascends set → All (λ q. q < p) set → Ascends (set ++ p ∷ [])
Ascends-push [] p up below = (All-nil (λ q. p < q), tt)
Ascends-push (r ∷ set) p up below =
    (All-push (λ q. r < q) set p up.0 (All-head (λ q. q < p) r set below), Ascends-push set p up.1 (All-tail (λ q. q < p) r set below))

-- one ascending list behind another
pub Ascends-append : (set more : List ℕ) (p : ℕ) → Ascends set → Ascends more → All (λ q. q < p) set
    → All (λ q. p ≤ q) more → Ascends (set ++ more)
Ascends-append [] more p up later below above = later
Ascends-append (r ∷ set) more p up later below above =
    let first : r < p = All-head (λ q. q < p) r set below in
    let rest = All-tail (λ q. q < p) r set below in
    (All-append (λ q. r < q) set more up.0 (All-weaker (λ q. p ≤ q) (λ q. r < q) (λ q l. omega arith) more above), Ascends-append set more p up.1 later rest above)

-- as many places as lie between its bounds, at most
ascending_length : (set : List ℕ) (p n : ℕ) → Ascends set → All (λ i. p ≤ i) set → All (λ i. i < n) set
    → p ≤ n → length set + p ≤ n
ascending_length [] p n up above below l = omega arith
ascending_length (i ∷ set) p n up above below l =
    let first : p ≤ i = All-head (λ i. p ≤ i) i set above in
    let last : i < n = All-head (λ i. i < n) i set below in
    let rest =
    ascending_length set (i + 1) n up.1
    (All-weaker (λ j. i < j) (λ j. i + 1 ≤ j) (λ j h. omega arith) set up.0)
    (All-tail (λ i. i < n) i set below) (omega arith) in
    omega arith

pub length_within : (set : List ℕ) (n : ℕ) → IsStrictlyIncreasing set → All (λ i. i < n) set → length set ≤ n
length_within set n rises below =
    let all =
    ascending_length set 0 n (Ascends-from_rising set rises) (λ k d inside. omega arith) below
    (omega arith) in
    omega arith

-- ---- what a set has

pub is_among-here : (p : ℕ) (set : List ℕ) → is_among (p ∷ set) p ≡ true
is_among-here p set = rw (eq-eqb p p refl) refl

pub is_among-later : (p q : ℕ) (set : List ℕ) → (p ≡ q → ⊥) → is_among (p ∷ set) q ≡ is_among set q
is_among-later p q set other = rw (ne_eqb p q other) refl

pub is_among-before : (p q : ℕ) (set : List ℕ) → All (λ r. p < r) set → q ≤ p → is_among set q ≡ false
is_among-before p q [] above most = refl
is_among-before p q (r ∷ set) above most =
    let first : p < r = All-head (λ r. p < r) r set above in
    let other : r ≡ q → ⊥ = λ e. omega arith in
    is_among-later r q set other ∙ is_among-before p q set (All-tail (λ r. p < r) r set above) most

pub is_among-append : (set more : List ℕ) (p : ℕ)
    → is_among (set ++ more) p ≡ (is_among set p || is_among more p)
is_among-append set more p = list_any-append (λ q. eqb q p) set more

pub is_among-filter : (test : ℕ → Bool) (set : List ℕ) (p : ℕ)
    → is_among (filter test set) p ≡ (test p && is_among set p)
is_among-filter test set p =
    any-filter_same (λ q. eqb q p) test (test p) (λ q same. ap test (eqb-true q p same)) set

pub is_among-from_Contains : (set : List ℕ) (p : ℕ) → Contains set p → is_among set p ≡ true
is_among-from_Contains set p h = list_any_at (λ q. eqb q p) set h.0 p h.1 (eq-eqb _ p h.2)

pub Contains-from_is_among : (set : List ℕ) (p : ℕ) → is_among set p ≡ true → Contains set p
Contains-from_is_among set p h =
    let found = Any-from_list_any (λ q. eqb q p) set h in
    let same : found.1 ≡ p = eqb-true found.1 p found.4 in
    (found.0, found.2, subst (λ x. get_or set found.0 x ≡ x) same found.3)

-- what holds of each place of a set holds of one that is among them
pub All-is_among : (P : ℕ → Type 0) (set : List ℕ) (p : ℕ) → All P set → is_among set p ≡ true → P p
All-is_among P set p all h =
    let there = Contains-from_is_among set p h in
    subst P there.2 (all there.0 p there.1)

pub All-from_is_among : (P : ℕ → Type 0) (set : List ℕ) → ((p : ℕ) → is_among set p ≡ true → P p) → All P set
All-from_is_among P set each k d inside =
    each (get_or set k d) (list_any_at (λ q. eqb q (get_or set k d)) set k d inside (eq-eqb _ _ refl))

-- ---- two sets that have the same places are one

same_tails : (p : ℕ) (set others : List ℕ) → Ascends (p ∷ set) → Ascends (p ∷ others)
    → ((q : ℕ) → is_among (p ∷ set) q ≡ is_among (p ∷ others) q) → (q : ℕ)
    → is_among set q ≡ is_among others q
same_tails p set others up down same q =
    elim (cases_eq p q) [
      | inl here ↦ is_among-before p q set up.0 (omega arith) ∙ sym (is_among-before p q others down.0 (omega arith))
      | inr other ↦ sym (is_among-later p q set other) ∙ same q ∙ is_among-later p q others other
    ]

-- the first place of one isn't below that of the other
not_below : (p q : ℕ) (set others : List ℕ) → Ascends (q ∷ others)
    → is_among (p ∷ set) p ≡ is_among (q ∷ others) p → p < q → ⊥
not_below p q set others up same l =
    let other : q ≡ p → ⊥ = λ e. omega arith in
    let none : is_among (q ∷ others) p ≡ false =
    is_among-later q p others other ∙ is_among-before q p others up.0 (omega arith) in
    both_ways _ none (sym same ∙ is_among-here p set)

pub same_set : (set others : List ℕ) → Ascends set → Ascends others
    → ((p : ℕ) → is_among set p ≡ is_among others p) → set ≡ others
same_set [] [] up down same = refl
same_set [] (q ∷ others) up down same =
    let none : is_among (q ∷ others) q ≡ false = sym (same q) in
    absurd (both_ways _ none (is_among-here q others))
same_set (p ∷ set) [] up down same =
    let none : is_among (p ∷ set) p ≡ false = same p in
    absurd (both_ways _ none (is_among-here p set))
same_set (p ∷ set) (q ∷ others) up down same =
    elim (cases_order p q) [
      | inl here ↦
          let down' = subst (λ r. Ascends (r ∷ others)) (sym here) down in
          let same' = subst (λ r. (s : ℕ) → is_among (p ∷ set) s ≡ is_among (r ∷ others) s) (sym here) same in
          let rest = same_set set others up.1 down'.1 (same_tails p set others up down' same') in
          ap (λ r. r ∷ set) here ∙ ap (λ xs. q ∷ xs) rest
      | inr apart ↦ elim apart [
        | inl l ↦ absurd (not_below p q set others down (same p) l)
        | inr l ↦ absurd (not_below q p others set up (sym (same q)) l)
      ]
    ]

-- a set without places is empty
pub empty_set : (set : List ℕ) → ((p : ℕ) → is_among set p ≡ false) → set ≡ []
empty_set [] none = refl
empty_set (p ∷ set) none = absurd (both_ways _ (none p) (is_among-here p set))

-- ---- the set of a number in a list

places_from_first : (k first : ℕ) (places : List ℕ)
    → All (λ p. first ≤ p) (places_with k first places) × Ascends (places_with k first places)
places_from_first k first [] = (All-nil (λ p. first ≤ p), tt)
places_from_first k first (x ∷ places) =
    let rest = places_from_first k (first + 1) places in
    let later = All-weaker (λ p. first + 1 ≤ p) (λ p. first < p) (λ p l. omega arith) _ rest.0 in
    let P : Bool → Type 0 = λ b. All (λ p. first ≤ p) (cond b (first ∷ places_with k (first + 1) places) (places_with k (first + 1) places)) × Ascends (cond b (first ∷ places_with k (first + 1) places) (places_with k (first + 1) places)) in
    let weak =
    All-weaker (λ p. first + 1 ≤ p) (λ p. first ≤ p) (λ p l. omega arith)
    (places_with k (first + 1) places) rest.0 in
    elim (eqb x k) as P [
      | true ↦ (All-cons (λ p. first ≤ p) first _ (omega arith) weak, (later, rest.1))
      | false ↦ (weak, rest.1)
    ]

pub Ascends-set_of : (k : ℕ) (places : List ℕ) → Ascends (set_of k places)
Ascends-set_of k places = (places_from_first k 0 places).1

pub places_of_number : (k : ℕ) (places : List ℕ) → All (λ p. p < length places) (set_of k places)
places_of_number k places =
    All-from_is_among (λ p. p < length places) (set_of k places) (λ p h. elim (cases_lt p (length places)) [
      | inl l ↦ l
      | inr past ↦ absurd (both_ways _ (is_among-set_of_past k p places past) h)
    ])
