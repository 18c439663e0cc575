-- Dates, and the numbers of their days.
use Rattle.std.proofs.Common.{◌≡◌, ◌∙◌, ℕ, ◌+◌, ◌-◌, ◌<◌, ◌≤◌, true, pos, ◌≤ℤ◌, arith, to_z, w8, w16, inl, inr, Result, Ok, Err, IsOk, None, Some}
use Rattle.std.specs.Result.{result_ok}
use Rattle.std.proofs.lemmas.Bool.{and_from, and_parts, le-leb, leb-true, cases_lt}
use Rattle.std.proofs.lemmas.Int.{ints}
use Rattle.std.specs.Int.{is_in_range}
use Rattle.jiff_core.proofs.CalendarLemmas.{day_count-epoch, days_from_civil-day_count, day_count-day_of_year, day_count-later_year, day_count-end, days_in_year_bounds, days_of_months_mono, days_of_months_all}
use Rattle.jiff_core.proofs.SignedLemmas.{signed_arith}
use Rattle.jiff_core.specs.Calendar.{IsDate, days_in_month, days_from_civil, day_count}
use Rattle.jiff_core.specs.Date.{IsYmd, epoch_day}
use Rattle.jiff_core.specs.declared.civil.date.Date.{Date}
use Rattle.roster_model.specs.Calendar.{is_real_date, day_number}
use Rattle.roster_model.specs.declared.limits.TheConstants.{FIRST_YEAR, LAST_YEAR, FIRST_MONTH_YEAR, LAST_MONTH_YEAR}
use Rattle.roster_instants.specs.declared.clocks.TheConstants.{EARLIEST_MONTH, LATEST_MONTH}

is_between : (low high n : ℕ) → pos low ≤ℤ pos n → pos n ≤ℤ pos high → is_in_range low high n ≡ true
is_between low high n above below =
    and_from _ _ (le-leb low n (omega (arith, ints))) (le-leb n high (omega (arith, ints)))

-- what `jiff` has as a date is a day of the calendar
pub is_real_from_date : (year month day : ℕ) → IsDate (pos year) (pos month) (pos day)
    → is_real_date year month day ≡ true
is_real_from_date year month day is =
    and_from _ _ (is_between 1 12 month is.1.0 is.1.1)
    (is_between 1 (days_in_month (pos year) month) day is.2.0 is.2.1)

-- and a day of the calendar, up to that year, is a date that `jiff` has
pub date_from_is_real : (year month day : ℕ) → year ≤ LAST_YEAR → is_real_date year month day ≡ true
    → IsDate (pos year) (pos month) (pos day)
date_from_is_real year month day to real =
    let both = and_parts _ _ real in
    let months = and_parts _ _ both.0 in
    let days = and_parts _ _ both.1 in
    let first = leb-true 1 month months.0 in
    let last = leb-true month 12 months.1 in
    let from = leb-true 1 day days.0 in
    let up_to = leb-true day (days_in_month (pos year) month) days.1 in
    ((omega (arith, ints), omega (arith, ints)), (omega (arith, ints), omega (arith, ints)), (omega (arith, ints), omega (arith, ints)))

-- the days up to the first of a year, from 1970 on
first_count : (year : ℕ) → 1970 ≤ year → 4_371_953 ≤ day_count (pos year) 1 1
first_count year from =
    elim (cases_lt 1970 year) [
      | inl later ↦
          let more = day_count-later_year (pos 1970) (pos year) (omega (arith, ints)) (omega (arith, ints)) in
          omega (arith, day_count-epoch, more)
      | inr early ↦
          let same : year ≡ 1970 = omega arith in
          rw (same, day_count-epoch) (omega arith)
    ]

-- no day of 1970 or later has a number below 0
pub day_from_1970 : (year month day : ℕ) → 1970 ≤ year → 1 ≤ day
    → pos 0 ≤ℤ days_from_civil (pos year) month day
day_from_1970 year month day from first =
    let count = first_count year from in
    let in_year = day_count-day_of_year (pos year) month day first in
    let number = days_from_civil-day_count (pos year) month day in
    omega (arith, signed_arith)

-- so the number that a clause speaks of is the one that `jiff` has
pub day_number_is : (year month day : ℕ) → 1970 ≤ year → 1 ≤ day
    → days_from_civil (pos year) month day ≡ pos (day_number year month day)
day_number_is year month day from first =
    let above = day_from_1970 year month day from first in
    omega (arith, ints)

-- a date that has been made of three numbers, and its day number
pub day_of_date : (date : Date) (year month day : ℕ) → 1970 ≤ year
    → IsYmd (pos year) (pos month) (pos day) date → epoch_day date ≡ pos (day_number year month day)
day_of_date date year month day from is =
    let months : date.month ≡ month = cc is.1 in
    let days : date.day ≡ day = cc is.2 in
    let there : epoch_day date ≡ days_from_civil (pos year) month day = rw (is.0, months, days) in
    there ∙ day_number_is year month day from (omega (arith, date.day_in.0))

-- what `ok` keeps
pub Ok-from_ok : {T E : Type 0} (r : Result T E) (x : T) → Some x ≡ result_ok r → r ≡ Ok x
Ok-from_ok (Ok y) x e = cc
Ok-from_ok (Err d) x e = cc

-- and what it does not
pub not_Ok : {T E : Type 0} (r : Result T E) → None ≡ result_ok r → IsOk r → ⊥
not_Ok (Ok y) e ok = cc
not_Ok (Err d) e ok = cc

-- a number below 10000 in a signed type
pub year_in_i16 : (n : ℕ) → n ≤ LAST_YEAR → to_z w16 n ≡ pos n
year_in_i16 n h = omega (arith, ints)

pub two_digits_in_i8 : (n : ℕ) → n < 100 → to_z w8 n ≡ pos n
two_digits_in_i8 n h = omega (arith, ints)

-- the same of three unsigned numbers, in signed types
pub day_of_parts : (date : Date) (year month day : ℕ) → FIRST_YEAR ≤ year → year ≤ LAST_YEAR → month < 100
    → day < 100
    → IsYmd (to_z w16 year) (to_z w8 month) (to_z w8 day) date
    → epoch_day date ≡ pos (day_number year month day)
day_of_parts date year month day from to month_fits day_fits is =
    day_of_date date year month day from
    (rw (← year_in_i16 year to, ← two_digits_in_i8 month month_fits, ← two_digits_in_i8 day day_fits) is)

-- no day of a month is before the earliest one's first
pub day_from_earliest : (year month day : ℕ) → FIRST_MONTH_YEAR ≤ year → 1 ≤ day
    → EARLIEST_MONTH ≤ day_number year month day
day_from_earliest year month day from first =
    let more : day_count (pos 1970) 1 1 + 365 ≤ day_count (pos year) 1 1 =
    day_count-later_year (pos 1970) (pos year) (omega (arith, ints)) (omega (arith, ints)) in
    let in_year = day_count-day_of_year (pos year) month day first in
    let number = days_from_civil-day_count (pos year) month day in
    let same = day_number_is year month day (omega arith) first in
    omega (arith, ints, day_count-epoch)

-- a month begins before 1 January 9998, two years before the last day that there is
pub day_to_latest : (year month : ℕ) → FIRST_MONTH_YEAR ≤ year → year ≤ LAST_MONTH_YEAR → 1 ≤ month
    → month ≤ 12 → day_number year month 1 ≤ LATEST_MONTH
day_to_latest year month from to low high =
    let rest =
    day_count-later_year (pos year) (pos 9998) (omega (arith, signed_arith))
    (omega (arith, signed_arith)) in
    let last =
    day_count-later_year (pos 9998) (pos 9999) (omega (arith, signed_arith))
    (omega (arith, signed_arith)) in
    let end =
    day_count-later_year (pos 9999) (pos 10000) (omega (arith, signed_arith))
    (omega (arith, signed_arith)) in
    let days = (days_in_year_bounds (pos 9998)).1 in
    let more = (days_in_year_bounds (pos 9999)).1 in
    let in_year = day_count-day_of_year (pos year) month 1 (omega arith) in
    let months = days_of_months_mono (pos year) (month - 1) 12 (omega arith) in
    let all = days_of_months_all (pos year) in
    let number = days_from_civil-day_count (pos year) month 1 in
    let same = day_number_is year month 1 (omega arith) (omega arith) in
    omega (arith, signed_arith, day_count-end)
