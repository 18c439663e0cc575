-- What rosters of a repaired book cost.
use Rattle.std.proofs.Common.{◌≡◌, ℕ, zero, suc, ◌+◌, ◌*◌, ◌<◌, ◌≤◌, Bool, true, false, not, ◌&&◌, cond, eqb, ltb, eq-eqb, List, [], ◌∷◌, length, map, Option, Some, None, ℤ, pos, ◌+ℤ◌, ◌-ℤ◌, refl, sym, ap, ◌∙◌, inl, inr, arith}
use Rattle.std.specs.List.{range_with_len}
use Rattle.std.proofs.lemmas.Bool.{ne_eqb, lt-ltb, le-ltb, cases_lt, cases_eq}
use Rattle.std.proofs.lemmas.Int.{ints}
use Rattle.roster_model.specs.records.Pairing.{Pairing}
use Rattle.roster_model.specs.Problem.{Problem, home_of, target_of, units_of, weight_of}
use Rattle.roster_model.specs.Costs.{cost_of, distance, flight_of, missed_target, missed_targets, open_penalties, placed_units, total}
use Rattle.roster_model.specs.Places.{open_number, set_of}
use Rattle.roster_model.specs.Rules.{duty_list}
use Rattle.roster_model.specs.Sums.{month_flight}
use Rattle.roster_model.proofs.CostLemmas.{total-nil, total-cons}
use Rattle.roster_desk_repair_terms.specs.Fixed.{staying, unnumbered, whole}
use Rattle.roster_desk_repair_terms.specs.Moves.{less_for, moves_from}
use Rattle.roster_desk_repair_terms.specs.Repaired.{AreUnitsFrom, IsRepair, KeepsCosts}
use Rattle.roster_desk_repair_terms.proofs.Wholes.{Fits, fits, fits_by_length, same_length, whole-staying}
use Rattle.roster_desk_repair_terms.proofs.Kept.{keeps_duties, same_flight}

-- ---- penalties

-- those of the pairings that are fixed open
abbrev fixed_open : ℕ → List (Option ℕ) → List Pairing → ℕ
fixed_open nobody [] pairings = 0
fixed_open nobody (f ∷ fixed) [] = 0
fixed_open nobody (Some n ∷ fixed) (pairing ∷ pairings) =
    cond (eqb n nobody) pairing.penalty 0 + fixed_open nobody fixed pairings
fixed_open nobody (None ∷ fixed) (pairing ∷ pairings) = fixed_open nobody fixed pairings

open-unnumbered : (nobody : ℕ) (pairings : List Pairing) (places : List ℕ)
    → open_penalties nobody (map unnumbered pairings) places ≡ open_penalties nobody pairings places
open-unnumbered nobody [] places = refl
open-unnumbered nobody (pairing ∷ pairings) [] = refl
open-unnumbered nobody (pairing ∷ pairings) (x ∷ places) =
    ap (λ (n : ℕ). cond (eqb x nobody) pairing.penalty 0 + n) (open-unnumbered nobody pairings places)

open-whole : (nobody : ℕ) (fixed : List (Option ℕ)) (pairings : List Pairing) (rest : List ℕ) → Fits fixed rest
    → open_penalties nobody pairings (whole fixed rest)
    ≡ open_penalties nobody (staying fixed pairings) rest + fixed_open nobody fixed pairings
open-whole nobody [] [] rest fits = refl
open-whole nobody [] (pairing ∷ pairings) rest fits = refl
open-whole nobody (f ∷ fixed) [] rest fits = refl
open-whole nobody (Some n ∷ fixed) (pairing ∷ pairings) rest fits =
    omega (arith, open-whole nobody fixed pairings rest fits)
open-whole nobody (None ∷ fixed) (pairing ∷ pairings) [] fits = absurd fits
open-whole nobody (None ∷ fixed) (pairing ∷ pairings) (y ∷ rest) fits =
    omega (arith, open-whole nobody fixed pairings rest fits)

-- ---- units

-- those of the pairings that are fixed with a person, and the prices of the others that a person has
abbrev kept_units : Problem → (ℕ → ℕ) → ℕ → List ℕ → List (Option ℕ) → ℤ
kept_units book price p [] fixed = pos 0
kept_units book price p (x ∷ published) [] = pos 0
kept_units book price p (x ∷ published) (Some n ∷ fixed) =
    cond (ltb n (open_number book)) (units_of book n p) (pos 0) +ℤ kept_units book price (p + 1) published fixed
kept_units book price p (x ∷ published) (None ∷ fixed) =
    pos (cond (ltb x (open_number book)) (price p) 0) +ℤ kept_units book price (p + 1) published fixed

-- a pairing that is fixed doesn't move
unmoved : (b : Bool) (x n price : ℕ) → n ≡ x → cond (b && not (eqb x n)) price 0 ≡ 0
unmoved true x n price same = rw (eq-eqb x n (sym same)) refl
unmoved false x n price same = refl

-- what one costs that is rostered anew
one_anew : (nobody x y price : ℕ) (before after : ℕ → ℤ)
    → ((k : ℕ) → k < nobody → after k +ℤ pos (less_for price x k) ≡ before k)
    → cond (ltb y nobody) (before y) (pos 0) +ℤ pos (cond (ltb x nobody && not (eqb x y)) price 0)
    ≡ cond (ltb y nobody) (after y) (pos 0) +ℤ pos (cond (ltb x nobody) price 0)
one_anew nobody x y price before after less =
    elim (cases_lt y nobody) [
      | inl placed ↦
          elim (cases_eq x y) [
            | inl same ↦
                let owned : x < nobody = omega arith in
                let says = less y placed in
                let here : less_for price x y ≡ price = rw (eq-eqb x y same) refl in
                rw (lt-ltb y nobody placed, lt-ltb x nobody owned, eq-eqb x y same) (omega (arith, ints, says, here))
            | inr other ↦
                let says = less y placed in
                let here : less_for price x y ≡ 0 = rw (ne_eqb x y other) refl in
                elim (cases_lt x nobody) [
                  | inl owned ↦ rw (lt-ltb y nobody placed, lt-ltb x nobody owned, ne_eqb x y other) (omega (arith, ints, says, here))
                  | inr free ↦ rw (lt-ltb y nobody placed, le-ltb x nobody free) (omega (arith, ints, says, here))
                ]
          ]
      | inr left ↦
          elim (cases_lt x nobody) [
            | inl owned ↦
                let other : x ≡ y → ⊥ = λ same. omega arith in
                rw (le-ltb y nobody left, lt-ltb x nobody owned, ne_eqb x y other) refl
            | inr free ↦ rw (le-ltb y nobody left, le-ltb x nobody free) refl
          ]
    ]

units-whole : (book repaired : Problem) (price : ℕ → ℕ) (p r : ℕ) (published : List ℕ)
    (fixed : List (Option ℕ)) (rest : List ℕ) → length repaired.persons ≡ length book.persons
    → AreUnitsFrom book repaired price p r published fixed → Fits fixed rest
    → placed_units book p (whole fixed rest)
    +ℤ pos (moves_from price (open_number book) p published (whole fixed rest))
    ≡ placed_units repaired r rest +ℤ kept_units book price p published fixed
units-whole book repaired price p r [] [] rest persons units fits =
    rw fits refl
units-whole book repaired price p r [] (f ∷ fixed) rest persons units fits = absurd units
units-whole book repaired price p r (x ∷ published) [] rest persons units fits = absurd units
units-whole book repaired price p r (x ∷ published) (Some n ∷ fixed) rest persons units fits =
    let later = units-whole book repaired price (p + 1) r published fixed rest persons units.1 fits in
    let here = unmoved (ltb x (open_number book)) x n (price p) units.0 in
    omega (arith, ints, later, here)
units-whole book repaired price p r (x ∷ published) (None ∷ fixed) [] persons units fits = absurd fits
units-whole book repaired price p r (x ∷ published) (None ∷ fixed) (y ∷ rest) persons units fits =
    let later = units-whole book repaired price (p + 1) (r + 1) published fixed rest persons units.1 fits in
    let here = one_anew (open_number book) x y (price p) (λ k. units_of book k p) (λ k. units_of repaired k r) units.0 in
    rw persons (omega (arith, ints, later, here))

-- ---- missed targets

total-range : (f g : ℕ → ℤ) (first n : ℕ) → ((k : ℕ) → first ≤ k → k < first + n → f k ≡ g k)
    → total f (range_with_len first n) ≡ total g (range_with_len first n)
total-range f g first zero each = total-nil f ∙ sym (total-nil g)
total-range f g first (suc n) each =
    let rest = range_with_len (first + 1) n in
    let later = total-range f g (first + 1) n (λ k from to. each k (omega arith) (omega arith)) in
    let here = each first (omega arith) (omega arith) in
    omega (arith, ints, total-cons f first rest, total-cons g first rest, here, later)

missed-same : (book : Problem) (published : List ℕ) (fixed : List (Option ℕ)) (price : ℕ → ℕ)
    (repaired : Problem) → IsRepair book published fixed price repaired
    → (rest : List ℕ) → Fits fixed rest → (k : ℕ) → k < length book.persons
    → missed_target repaired k (set_of k rest) ≡ missed_target book k (set_of k (whole fixed rest))
missed-same book published fixed price repaired repair rest fit k one =
    let same = repair.same k one in
    let list = duty_list repaired k (set_of k rest) in
    let flight : flight_of repaired k (set_of k rest) ≡ flight_of book k (set_of k (whole fixed rest)) =
    ap (λ h. month_flight h.days list) same.home
    ∙ same_flight (home_of book k).days list (duty_list book k (set_of k (whole fixed rest)))
    (keeps_duties book published fixed price repaired repair rest fit k one) in
    ap (λ w. w * distance (flight_of repaired k (set_of k rest)) (target_of repaired k)) repair.weight
    ∙ ap (λ f. weight_of book * distance f (target_of repaired k)) flight
    ∙ ap (λ t. weight_of book * distance (flight_of book k (set_of k (whole fixed rest))) t) same.target

missed-whole : (book : Problem) (published : List ℕ) (fixed : List (Option ℕ)) (price : ℕ → ℕ)
    (repaired : Problem) → IsRepair book published fixed price repaired
    → (rest : List ℕ) → Fits fixed rest → missed_targets repaired rest ≡ missed_targets book (whole fixed rest)
missed-whole book published fixed price repaired repair rest fit =
    let f : ℕ → ℤ = λ k. pos (missed_target repaired k (set_of k rest)) in
    let g : ℕ → ℤ = λ k. pos (missed_target book k (set_of k (whole fixed rest))) in
    ap (λ n. total f (range_with_len 0 n)) repair.persons
    ∙ total-range f g 0 (length book.persons)
    (λ k from to. ap pos (missed-same book published fixed price repaired repair rest fit k (omega arith)))

-- ---- all of it

moves-none : (price : ℕ → ℕ) (nobody p : ℕ) (places : List ℕ) → moves_from price nobody p places places ≡ 0
moves-none price nobody p [] = refl
moves-none price nobody p (x ∷ places) =
    let here = unmoved (ltb x nobody) x x (price p) refl in
    let later = moves-none price nobody (p + 1) places in
    omega (arith, here, later)

open-same : (book : Problem) (published : List ℕ) (fixed : List (Option ℕ)) (price : ℕ → ℕ)
    (repaired : Problem) → IsRepair book published fixed price repaired → (rest : List ℕ) → Fits fixed rest
    → open_penalties (open_number book) book.pairings (whole fixed rest)
    ≡ open_penalties (open_number repaired) repaired.pairings rest
    + fixed_open (open_number book) fixed (map unnumbered book.pairings)
open-same book published fixed price repaired repair rest fit =
    let nobody = open_number book in
    let after : open_penalties (open_number repaired) repaired.pairings rest
    ≡ open_penalties nobody (staying fixed (map unnumbered book.pairings)) rest =
    ap (λ n. open_penalties n repaired.pairings rest) repair.persons
    ∙ sym (open-unnumbered nobody repaired.pairings rest)
    ∙ ap (λ l. open_penalties nobody l rest) repair.pairings in
    let before = open-unnumbered nobody book.pairings (whole fixed rest) in
    let parts = open-whole nobody fixed (map unnumbered book.pairings) rest fit in
    omega (arith, after, before, parts)

costs-by_parts : (book : Problem) (published : List ℕ) (fixed : List (Option ℕ)) (price : ℕ → ℕ)
    (repaired : Problem) → IsRepair book published fixed price repaired → (rest : List ℕ) → Fits fixed rest
    → cost_of book (whole fixed rest)
    +ℤ pos (moves_from price (open_number book) 0 published (whole fixed rest))
    ≡ cost_of repaired rest +ℤ (pos (fixed_open (open_number book) fixed (map unnumbered book.pairings))
    +ℤ kept_units book price 0 published fixed)
unfolding cost_of
costs-by_parts book published fixed price repaired repair rest fit =
    let penalties = open-same book published fixed price repaired repair rest fit in
    let units = units-whole book repaired price 0 0 published fixed rest repair.persons repair.units fit in
    let missed = missed-whole book published fixed price repaired repair rest fit in
    omega (arith, ints, penalties, units, missed)

pub keeps_costs : (book : Problem) (published : List ℕ) (fixed : List (Option ℕ)) (price : ℕ → ℕ)
    (repaired : Problem) → IsRepair book published fixed price repaired
    → length published ≡ length book.pairings
    → KeepsCosts book published fixed price repaired
    (cost_of book published -ℤ cost_of repaired (staying fixed published))
keeps_costs book published fixed price repaired repair covers rest many =
    let fit = fits book published fixed price repaired repair covers rest many in
    let own = fits_by_length fixed published (staying fixed published)
    (same_length book repaired price 0 0 published fixed repair.units) refl in
    let one = costs-by_parts book published fixed price repaired repair rest fit in
    let two = rw (whole-staying book repaired price 0 0 published fixed repair.units) at (costs-by_parts book published fixed price repaired repair (staying fixed published) own) in
    let none = moves-none price (open_number book) 0 published in
    omega (arith, ints, one, two, none)
