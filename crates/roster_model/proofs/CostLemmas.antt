-- Sums of costs, and cost units within their limits.
use Rattle.std.proofs.Common.{◌≡◌, ℕ, ◌≤◌, Bool, true, false, cond, List, [], ◌∷◌, ◌++◌, Some, option_map, ℤ, pos, ◌+ℤ◌, refl, arith}
use Rattle.std.specs.Prelude.{All, unwrap_or, unsigned_abs}
use Rattle.std.specs.List.{find, sum_by}
use Rattle.std.proofs.lemmas.Int.{ints}
use Rattle.std.proofs.lemmas.List.Elements.{All-head, All-tail}
use Rattle.std.proofs.lemmas.List.Sums.{sum_by-cons}
use Rattle.roster_model.specs.declared.limits.TheConstants.{MOST_UNITS}
use Rattle.roster_model.specs.Costs.{total}
use Rattle.roster_model.specs.records.Cost.{Cost, is_cost_of, units_given}

-- ---- sums

pub total-nil : {X : Type 0} (cost : X → ℤ) → total cost [] ≡ pos 0
unfolding total
total-nil cost = refl

pub total-cons : {X : Type 0} (cost : X → ℤ) (x : X) (xs : List X)
    → total cost (x ∷ xs) ≡ cost x +ℤ total cost xs
unfolding total
total-cons cost x xs = refl

pub total-append : {X : Type 0} (cost : X → ℤ) (xs ys : List X)
    → total cost (xs ++ ys) ≡ total cost xs +ℤ total cost ys
total-append cost [] ys = omega (arith, ints, total-nil cost)
total-append cost (x ∷ xs) ys =
    omega (arith, ints, total-cons cost x (xs ++ ys), total-cons cost x xs, total-append cost xs ys)

-- of two costs of each
pub total-both : {X : Type 0} (f g h : X → ℤ) → ((x : X) → f x ≡ g x +ℤ h x) → (xs : List X)
    → total f xs ≡ total g xs +ℤ total h xs
total-both f g h each [] = omega (arith, ints, total-nil f, total-nil g, total-nil h)
total-both f g h each (x ∷ xs) =
    omega
    (arith, ints, total-cons f x xs, total-cons g x xs, total-cons h x xs, each x, total-both f g h each xs)

-- of costs that aren't negative
pub total-pos : {X : Type 0} (f : X → ℕ) (xs : List X) → total (λ x. pos (f x)) xs ≡ pos (sum_by f xs)
total-pos f [] = omega (arith, ints, total-nil (λ x. pos (f x)))
total-pos f (x ∷ xs) =
    omega (arith, ints, total-cons (λ y. pos (f y)) x xs, total-pos f xs, sum_by-cons f x xs)

-- ---- units

-- if no units are beyond their limit, those of a pair aren't
pub units-limited : (costs : List Cost) (k p : ℕ) → All (λ cost. unsigned_abs cost.units ≤ MOST_UNITS) costs
    → unsigned_abs (unwrap_or (units_given costs k p) (pos 0)) ≤ MOST_UNITS
units-limited [] k p few = omega arith
units-limited (cost ∷ costs) k p few =
    let P : Bool → Type 0 = λ b. unsigned_abs (unwrap_or (option_map (λ c. c.units) (cond b (Some cost) (find (is_cost_of k p) costs))) (pos 0)) ≤ MOST_UNITS in
    elim (is_cost_of k p cost) as P [
      | true ↦ All-head (λ c. unsigned_abs c.units ≤ MOST_UNITS) cost costs few
      | false ↦ units-limited costs k p (All-tail (λ c. unsigned_abs c.units ≤ MOST_UNITS) cost costs few)
    ]
