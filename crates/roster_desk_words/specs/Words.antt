-- How times and names are told.
use Rattle.std.specs.Prelude.{ℕ, ℤ, ◌+◌, ◌-◌, ◌/◌, ◌%◌, ◌++◌, ◌+ℤ◌, List, codes, if◌then◌else◌, nat_le, nat_lt, option_map, pos, slice_get, unwrap_or}
use Rattle.std.specs.Fmt.{decimal, signed_decimal}
use Rattle.roster_model.specs.Calendar.{Period}
use Rattle.roster_model.specs.declared.limits.TheConstants.{DAYS_BEFORE}
use Rattle.roster_model.specs.Problem.{Problem}

-- minutes as hours and minutes
abbrev pub time_text : ℕ → List ℕ
time_text minutes =
    decimal (minutes / 60) ++ codes ":" ++ decimal (minutes % 60 / 10) ++ decimal (minutes % 10)

-- the name of the pairing at place p, if there is one
abbrev pub name_at : Problem → ℕ → List ℕ
name_at problem p = unwrap_or (option_map (λ pairing. pairing.id) (slice_get problem.pairings p)) (codes "-")

-- the name of the person at place k, if there is one
abbrev pub person_at : Problem → ℕ → List ℕ
person_at problem k = unwrap_or (option_map (λ person. person.id) (slice_get problem.persons k)) (codes "-")

-- a date as in `2024-03-09`
abbrev pub date_text : ℤ → ℕ → ℕ → List ℕ
date_text year month day =
    signed_decimal year ++ codes "-" ++ decimal (month / 10) ++ decimal (month % 10) ++ codes "-"
    ++ decimal (day / 10) ++ decimal (day % 10)

-- the date of the n-th day of the month, which has so many days, or of the next month
abbrev pub date_in : Period → ℕ → ℕ → List ℕ
date_in period month_days n =
    if nat_le n month_days then date_text (pos period.year) period.month n
    else if nat_lt period.month 12 then date_text (pos period.year) (period.month + 1) (n - month_days)
    else date_text (pos period.year +ℤ pos 1) 1 (n - month_days)

-- the date of a day of the window that is of the month or of the next one
abbrev pub day_text : Period → ℕ → ℕ → List ℕ
day_text period month_days day = date_in period month_days (day - DAYS_BEFORE + 1)
