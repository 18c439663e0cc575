-- The months and instants that texts spell.
use Rattle.std.proofs.Common.{◌≡◌, ◌∙◌, ℕ, ◌+◌, ◌*◌, ◌<◌, ◌≤◌, Bool, true, false, if◌then◌else◌, List, ap, arith, Some, None, codes, unsigned_abs, to_z, w8, w16, nat_le}
use Rattle.std.proofs.lemmas.Int.{ints}
use Rattle.std.proofs.lemmas.Bool.Decides.{nat_tests}
use Rattle.std.proofs.lemmas.Bool.{and_left, and_right, and_from, lt-leb, le-leb}
use Rattle.std.specs.Int.{is_in_range}
use Rattle.roster_model.specs.Form.{has_shape, number_at}
use Rattle.roster_model.specs.Calendar.{Period, period_of, is_instant, instant_of, is_real_date, day_number}
use Rattle.roster_model.specs.declared.limits.TheConstants.{FIRST_YEAR, LAST_YEAR, FIRST_MONTH_YEAR, LAST_MONTH_YEAR}

-- a test that says no
none_if : {X : Type 0} (test : Bool) (x : X) → test ≡ false → None ≡ (if test then Some x else None)
none_if test x e = rw e

-- and one that says yes
some_if : {X : Type 0} (test : Bool) (x : X) → test ≡ true → Some x ≡ (if test then Some x else None)
some_if test x e = rw e

-- a text of another shape is no month
pub period-unshaped : (text : List ℕ) → has_shape (codes "0000-00") text ≡ false → None ≡ period_of text
unfolding period_of
period-unshaped text e = none_if _ _ (and_left _ _ (and_left _ _ e))

-- nor is one with a year or a month out of range
pub period-no_year : (text : List ℕ)
    → is_in_range FIRST_MONTH_YEAR LAST_MONTH_YEAR (number_at text 0 4) ≡ false → None ≡ period_of text
unfolding period_of
period-no_year text e = none_if _ _ (and_left _ _ (and_right _ _ e))

pub period-no_month : (text : List ℕ) → is_in_range 1 12 (number_at text 5 7) ≡ false → None ≡ period_of text
unfolding period_of
period-no_month text e = none_if _ _ (and_right _ _ e)

-- and every other text is the month that its numbers name
pub period-read : (text : List ℕ) → has_shape (codes "0000-00") text ≡ true
    → is_in_range FIRST_MONTH_YEAR LAST_MONTH_YEAR (number_at text 0 4) ≡ true
    → is_in_range 1 12 (number_at text 5 7) ≡ true
    → Some (record { year = number_at text 0 4; month = number_at text 5 7 }) ≡ period_of text
unfolding period_of
period-read text shape year month = some_if _ _ (and_from _ _ (and_from _ _ shape year) month)

-- small numbers stay what they are in a signed type
pub in_i16 : (n : ℕ) → n ≤ LAST_YEAR → unsigned_abs (to_z w16 n) ≡ n
in_i16 n h = grind (arith, ints)

pub in_i8 : (n : ℕ) → n ≤ 99 → unsigned_abs (to_z w8 n) ≡ n
in_i8 n h = grind (arith, ints)

abbrev record_of : ℕ → ℕ → Period
record_of year month = record { year = year; month = month }

-- a year and a month that are kept in signed types
pub same_period : (y m year month : ℕ) → is_in_range FIRST_MONTH_YEAR LAST_MONTH_YEAR year ≡ true
    → is_in_range 1 12 month ≡ true → y ≡ year → m ≡ month
    → record_of (unsigned_abs (to_z w16 y)) (unsigned_abs (to_z w8 m)) ≡ record_of year month
same_period y m year month year_in month_in same_year same_month =
    let bound : y ≤ LAST_YEAR = grind (arith, nat_tests) in
    let small : m ≤ 99 = grind (arith, nat_tests) in
    rw (in_i16 y bound, in_i8 m small, same_year, same_month)

-- ---- instants

-- a text of another shape is no instant
pub instant-unshaped : (text : List ℕ) → has_shape (codes "0000-00-00T00:00Z") text ≡ false
    → None ≡ instant_of text
unfolding instant_of is_instant
instant-unshaped text e = none_if _ _ (and_left _ _ (and_left _ _ (and_left _ _ (and_left _ _ e))))

-- nor is one with a year out of range, or of no date
pub instant-no_year : (text : List ℕ) → is_in_range FIRST_YEAR LAST_YEAR (number_at text 0 4) ≡ false
    → None ≡ instant_of text
unfolding instant_of is_instant
instant-no_year text e = none_if _ _ (and_left _ _ (and_left _ _ (and_left _ _ (and_right _ _ e))))

pub instant-no_date : (text : List ℕ)
    → is_real_date (number_at text 0 4) (number_at text 5 7) (number_at text 8 10) ≡ false
    → None ≡ instant_of text
unfolding instant_of is_instant
instant-no_date text e = none_if _ _ (and_left _ _ (and_left _ _ (and_right _ _ e)))

-- or of no hour or minute of a day
pub instant-no_hour : (text : List ℕ) → 23 < number_at text 11 13 → None ≡ instant_of text
unfolding instant_of is_instant
instant-no_hour text e = none_if _ _ (and_left _ _ (and_right _ _ (lt-leb _ _ e)))

pub instant-no_minute : (text : List ℕ) → 59 < number_at text 14 16 → None ≡ instant_of text
unfolding instant_of is_instant
instant-no_minute text e = none_if _ _ (and_right _ _ (lt-leb _ _ e))

-- and every other text is the instant that its numbers name
pub instant-read : (text : List ℕ) (day hour minute : ℕ) → has_shape (codes "0000-00-00T00:00Z") text ≡ true
    → is_in_range FIRST_YEAR LAST_YEAR (number_at text 0 4) ≡ true
    → is_real_date (number_at text 0 4) (number_at text 5 7) (number_at text 8 10) ≡ true
    → day ≡ day_number (number_at text 0 4) (number_at text 5 7) (number_at text 8 10)
    → hour ≡ number_at text 11 13 → hour ≤ 23 → minute ≡ number_at text 14 16 → minute ≤ 59
    → Some (day * 1440 + (hour * 60 + minute)) ≡ instant_of text
unfolding instant_of is_instant
instant-read text day hour minute shape year date is_day is_hour hour_in is_minute minute_in =
    let sum : day * 1440 + (hour * 60 + minute) ≡ day_number (number_at text 0 4) (number_at text 5 7) (number_at text 8 10) * 1440 + number_at text 11 13 * 60 + number_at text 14 16 =
    rw (is_day, is_hour, is_minute) (omega arith) in
    let hours : nat_le (number_at text 11 13) 23 ≡ true = le-leb _ _ (rw (← is_hour) hour_in) in
    let minutes : nat_le (number_at text 14 16) 59 ≡ true = le-leb _ _ (rw (← is_minute) minute_in) in
    ap (λ n. Some n) sum
    ∙ some_if _ _ (and_from _ _ (and_from _ _ (and_from _ _ (and_from _ _ shape year) date) hours) minutes)
