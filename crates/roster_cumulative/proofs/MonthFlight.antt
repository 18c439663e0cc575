-- The month's flight of a list is that of its duties.
use Rattle.std.proofs.Common.{◌≡◌, ℕ, ◌+◌, List, [], ◌∷◌, get_or, arith}
use Rattle.std.specs.List.{range_with_len, sum_by}
use Rattle.std.proofs.lemmas.List.Sums.{sum_by-cons}
use Rattle.roster_model.specs.declared.limits.TheConstants.{DAYS_BEFORE}
use Rattle.roster_model.specs.Calendar.{Days}
use Rattle.roster_model.specs.records.Duty.{Duty}
use Rattle.roster_model.specs.Sums.{duty_flight, flight_between, month_flight}

-- ---- sums of sums

sum_by-nothing : {Y : Type 0} (ys : List Y) → sum_by (λ y. 0) ys ≡ 0
sum_by-nothing [] = omega arith
sum_by-nothing (y ∷ ys) = omega (arith, sum_by-cons (λ z. 0) y ys, sum_by-nothing ys)

sum_of_sums-cons : {X Y : Type 0} (f : X → Y → ℕ) (x : X) (xs : List X) (ys : List Y) → sum_by (λ y. sum_by (λ z. f z y) (x ∷ xs)) ys ≡ sum_by (f x) ys + sum_by (λ y. sum_by (λ z. f z y) xs) ys
sum_of_sums-cons f x xs [] = omega arith
sum_of_sums-cons f x xs (y ∷ ys) =
    omega (arith, sum_by-cons (λ y. sum_by (λ z. f z y) (x ∷ xs)) y ys, sum_by-cons (f x) y ys, sum_by-cons (λ y. sum_by (λ z. f z y) xs) y ys, sum_by-cons (λ z. f z y) x xs, sum_of_sums-cons f x xs ys)

-- which of two lists is gone through first doesn't matter
pub sum_of_sums : {X Y : Type 0} (f : X → Y → ℕ) (xs : List X) (ys : List Y)
    → sum_by (λ y. sum_by (λ x. f x y) xs) ys ≡ sum_by (λ x. sum_by (f x) ys) xs
sum_of_sums f [] ys = sum_by-nothing ys
sum_of_sums f (x ∷ xs) ys =
    omega (arith, sum_of_sums-cons f x xs ys, sum_of_sums f xs ys, sum_by-cons (λ z. sum_by (f z) ys) x xs)

-- ---- the month

-- the flight of a duty on a day
abbrev on : Days → Duty → ℕ → ℕ
on days duty i = flight_between duty (get_or days.mid i 0) (get_or days.mid (i + 1) 0)

month_flight-cons : (days : Days) (duty : Duty) (list : List Duty)
    → month_flight days (duty ∷ list) ≡ duty_flight days duty + month_flight days list
month_flight-cons days duty list =
    let month = range_with_len DAYS_BEFORE days.month_days in
    omega (arith, sum_of_sums-cons (on days) duty list month, sum_of_sums-cons (on days) duty [] month, sum_by-nothing month)

pub month_flight-sum : (days : Days) (list : List Duty)
    → month_flight days list ≡ sum_by (duty_flight days) list
month_flight-sum days [] = sum_by-nothing (range_with_len DAYS_BEFORE days.month_days)
month_flight-sum days (duty ∷ list) =
    omega (arith, month_flight-cons days duty list, month_flight-sum days list, sum_by-cons (duty_flight days) duty list)
