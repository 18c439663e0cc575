-- What a roster costs, person by person.
use Rattle.std.proofs.Common.{◌≡◌, ℕ, zero, suc, ◌+◌, ◌<◌, ◌≤◌, Bool, true, false, cond, eqb, eq-eqb, ltb, List, [], ◌∷◌, length, ℤ, pos, ◌+ℤ◌, refl, sym, ap, ◌∙◌, inl, inr, arith}
use Rattle.std.specs.Prelude.{All}
use Rattle.std.specs.List.{range_with_len}
use Rattle.std.proofs.lemmas.Bool.{cases_eq, lt-ltb, le-ltb, ne_eqb}
use Rattle.std.proofs.lemmas.Int.{ints}
use Rattle.std.proofs.lemmas.List.Elements.{All-head, All-tail}
use Rattle.roster_cost.specs.Priced.{penalties_and_prices, reduced_cost}
use Rattle.roster_model.specs.records.Pairing.{Pairing}
use Rattle.roster_model.specs.Costs.{cost_of, line_cost, missed_target, open_penalties, placed_units, total}
use Rattle.roster_model.specs.Places.{open_number, places_with, set_of}
use Rattle.roster_model.specs.Problem.{Problem, units_of}
use Rattle.roster_model.proofs.CostLemmas.{total-nil, total-cons, total-both}

-- if no number of a range is x
nowhere : (cost : ℕ → ℤ) (x first n : ℕ) → x < first
    → total (λ k. cond (eqb x k) (cost k) (pos 0)) (range_with_len first n) ≡ pos 0
nowhere cost x first zero before = total-nil (λ k. cond (eqb x k) (cost k) (pos 0))
nowhere cost x first (suc n) before =
    let here : cond (eqb x first) (cost first) (pos 0) ≡ pos 0 =
    rw (ne_eqb x first (λ e. omega arith)) refl in
    omega (arith, ints, total-cons (λ k. cond (eqb x k) (cost k) (pos 0)) first (range_with_len (first + 1) n), here, nowhere cost x (first + 1) n (omega arith))

-- and if one may be
at_one : (cost : ℕ → ℤ) (x first n last : ℕ) → first + n ≡ last → first ≤ x → total (λ k. cond (eqb x k) (cost k) (pos 0)) (range_with_len first n) ≡ cond (ltb x last) (cost x) (pos 0)
at_one cost x first zero last at after =
    total-nil (λ k. cond (eqb x k) (cost k) (pos 0)) ∙ rw (le-ltb x last (omega arith)) refl
at_one cost x first (suc n) last at after =
    let split = total-cons (λ k. cond (eqb x k) (cost k) (pos 0)) first (range_with_len (first + 1) n) in
    elim (cases_eq x first) [
      | inl same ↦
          let here : cond (eqb x first) (cost first) (pos 0) ≡ cost x =
          rw (eq-eqb x first same) (ap cost (sym same)) in
          let there : cond (ltb x last) (cost x) (pos 0) ≡ cost x = rw (lt-ltb x last (omega arith)) refl in
          omega (arith, ints, split, here, there, nowhere cost x (first + 1) n (omega arith))
      | inr other ↦
          let here : cond (eqb x first) (cost first) (pos 0) ≡ pos 0 = rw (ne_eqb x first other) refl in
          omega (arith, ints, split, here, at_one cost x (first + 1) n last (omega arith) (omega arith))
    ]

-- what one number more adds to the set of k
one_number : (cost : ℕ → ℤ) (has : Bool) (p : ℕ) (set : List ℕ)
    → total cost (cond has (p ∷ set) set) ≡ cond has (cost p) (pos 0) +ℤ total cost set
one_number cost true p set = total-cons cost p set
one_number cost false p set = omega (arith, ints)

nothing : (ks : List ℕ) → total (λ k. pos 0) ks ≡ pos 0
nothing [] = total-nil (λ k. pos 0)
nothing (k ∷ ks) = omega (arith, ints, total-cons (λ j. pos 0) k ks, nothing ks)

pub same_total : (f g : ℕ → ℤ) → ((k : ℕ) → f k ≡ g k) → (ks : List ℕ) → total f ks ≡ total g ks
same_total f g same [] = total-nil f ∙ sym (total-nil g)
same_total f g same (k ∷ ks) =
    omega (arith, ints, total-cons f k ks, total-cons g k ks, same k, same_total f g same ks)

-- an amount of each placed pairing with its person; the first number is that of pairing p
placed : (ℕ → ℕ → ℤ) → ℕ → ℕ → List ℕ → ℤ
placed amount n p [] = pos 0
placed amount n p (x ∷ places) = cond (ltb x n) (amount x p) (pos 0) +ℤ placed amount n (p + 1) places

-- each placed pairing is in the set of one person
amounts-by_person : (amount : ℕ → ℕ → ℤ) (n p : ℕ) (places : List ℕ)
    → total (λ k. total (amount k) (places_with k p places)) (range_with_len 0 n) ≡ placed amount n p places
unfolding placed
amounts-by_person amount n p [] =
    same_total (λ k. total (amount k) []) (λ k. pos 0) (λ k. total-nil (amount k)) _
    ∙ nothing (range_with_len 0 n)
amounts-by_person amount n p (x ∷ places) =
    let persons = range_with_len 0 n in
    let both =
    total-both (λ k. total (amount k) (places_with k p (x ∷ places)))
    (λ k. cond (eqb x k) (amount k p) (pos 0)) (λ k. total (amount k) (places_with k (p + 1) places))
    (λ k. one_number (amount k) (eqb x k) p (places_with k (p + 1) places)) persons in
    let here = at_one (λ k. amount k p) x 0 n n (omega arith) (omega arith) in
    omega (arith, ints, both, here, amounts-by_person amount n (p + 1) places)

-- of units it is what placed pairings cost
placed-units : (problem : Problem) (p : ℕ) (places : List ℕ)
    → placed (units_of problem) (length problem.persons) p places ≡ placed_units problem p places
unfolding placed
placed-units problem p [] = refl
placed-units problem p (x ∷ places) =
    ap (λ (z : ℤ). cond (ltb x (length problem.persons)) (units_of problem x p) (pos 0) +ℤ z)
    (placed-units problem (p + 1) places)

pub by_person : (problem : Problem) (places : List ℕ)
    → cost_of problem places ≡ pos (open_penalties (open_number problem) problem.pairings places) +ℤ total (λ k. line_cost problem k (set_of k places)) (range_with_len 0 (length problem.persons))
unfolding cost_of
by_person problem places =
    let persons = range_with_len 0 (length problem.persons) in
    let lines =
    total-both (λ k. line_cost problem k (set_of k places))
    (λ k. total (units_of problem k) (set_of k places))
    (λ k. pos (missed_target problem k (set_of k places))) (λ k. refl) persons in
    let units =
    amounts-by_person (units_of problem) (length problem.persons) 0 places
    ∙ placed-units problem 0 places in
    omega (arith, ints, lines, units)

-- of prices it is what is left, beside penalties
placed-prices : (price : ℕ → ℤ) (n p : ℕ) (pairings : List Pairing) (places : List ℕ)
    → length places ≡ length pairings → All (λ x. x ≤ n) places
    → pos (open_penalties n pairings places) +ℤ placed (λ k. price) n p places ≡ penalties_and_prices price n p pairings places
unfolding placed
placed-prices price n p [] [] covers numbers = refl
placed-prices price n p (pairing ∷ pairings) [] covers numbers = refl
placed-prices price n p [] (x ∷ places) covers numbers = absurd (omega arith)
placed-prices price n p (pairing ∷ pairings) (x ∷ places) covers numbers =
    let within = All-head (λ y. y ≤ n) x places numbers in
    let rest =
    placed-prices price n (p + 1) pairings places (omega arith)
    (All-tail (λ y. y ≤ n) x places numbers) in
    elim (cases_eq x n) [
      | inl same ↦
          let penalty : cond (eqb x n) pairing.penalty 0 ≡ pairing.penalty = rw (eq-eqb x n same) refl in
          let here : cond (ltb x n) (price p) (pos 0) ≡ pos 0 = rw (le-ltb x n (omega arith)) refl in
          let there : cond (eqb x n) (pos pairing.penalty) (price p) ≡ pos pairing.penalty =
          rw (eq-eqb x n same) refl in
          omega (arith, ints, penalty, here, there, rest)
      | inr other ↦
          let penalty : cond (eqb x n) pairing.penalty 0 ≡ 0 = rw (ne_eqb x n other) refl in
          let here : cond (ltb x n) (price p) (pos 0) ≡ price p = rw (lt-ltb x n (omega arith)) refl in
          let there : cond (eqb x n) (pos pairing.penalty) (price p) ≡ price p = rw (ne_eqb x n other) refl in
          omega (arith, ints, penalty, here, there, rest)
    ]

-- what a roster costs at any prices
pub by_prices : (problem : Problem) (price : ℕ → ℤ) (places : List ℕ)
    → length places ≡ length problem.pairings → All (λ x. x ≤ length problem.persons) places
    → cost_of problem places
    ≡ total (λ k. reduced_cost problem price k (set_of k places)) (range_with_len 0 (length problem.persons))
    +ℤ penalties_and_prices price (open_number problem) 0 problem.pairings places
by_prices problem price places covers numbers =
    let persons = range_with_len 0 (length problem.persons) in
    let lines =
    total-both (λ k. line_cost problem k (set_of k places))
    (λ k. reduced_cost problem price k (set_of k places)) (λ k. total price (set_of k places))
    (λ k. omega (arith, ints)) persons in
    let prices = amounts-by_person (λ k. price) (length problem.persons) 0 places in
    let rest = placed-prices price (length problem.persons) 0 problem.pairings places covers numbers in
    omega (arith, ints, by_person problem places, lines, prices, rest)
