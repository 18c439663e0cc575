-- Months that follow one another, and what a ledger has of them.
use Rattle.std.specs.Prelude.{ℕ, ◌+◌, ◌*◌, Bool, ◌&&◌, ◌==◌, nat_lt, nat_le, if◌then◌else◌, List}
use Rattle.std.specs.List.{sum_by}
use Rattle.std.specs.Str.{bytes_eq}
use Rattle.roster_model.specs.Calendar.{Period}
use Rattle.roster_model.specs.records.Crew.{Person}
use Rattle.roster_desk_carry_judged.specs.declared.ledger.Before.{Before}
use Rattle.roster_desk_carry_judged.specs.declared.ledger.Flown.{Flown}

-- the month after it
abbrev pub next_month : Period → Period
next_month month =
    if month.month == 12 then record { year = month.year + 1; month = 1 }
    else record { year = month.year; month = month.month + 1 }

-- the number of a month, in which each month is one more than the one before it
abbrev pub month_number : Period → ℕ
month_number month = month.year * 12 + month.month

-- the other month is before this one
abbrev pub is_before : Period → Period → Bool
is_before this other = nat_lt (month_number other) (month_number this)

-- it is before this one, and of the calendar year of the month after this one
abbrev pub is_of_year : Period → Period → Bool
is_of_year this other = is_before this other && (other.year == (next_month this).year)

-- it is one of the ten before this one: with this one, they are the eleven before the month after it
abbrev pub is_of_ten : Period → Period → Bool
is_of_ten this other = is_before this other && nat_le (month_number this) (month_number other + 10)

-- the minutes that a row of a ledger has of a person in the months that pass a test
abbrev pub minutes_in : (Period → Bool) → List ℕ → Flown → ℕ
minutes_in test name row = if bytes_eq row.person name && test row.month then row.minutes else 0

-- and those of the whole ledger
abbrev pub flown_in : (Period → Bool) → List ℕ → List Flown → ℕ
flown_in test name ledger = sum_by (minutes_in test name) ledger

-- what a ledger has of a person before this month, as far as it counts after it
abbrev pub by_ledger : Period → List Flown → Person → Before
by_ledger this ledger person = record {
  year = flown_in (is_of_year this) person.id ledger;
  eleven = flown_in (is_of_ten this) person.id ledger;
}

-- What a book itself has of a person: of the eleven months before this one the first counts too, which is no
-- more than there is to be.
abbrev pub by_book : Person → Before
by_book person = record { year = person.year; eleven = person.eleven }
