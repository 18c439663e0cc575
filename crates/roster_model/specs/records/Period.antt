-- `period,YYYY-MM`: the month of the book.
use Rattle.std.specs.Prelude.{Bool, not, ◌==◌, List, [], ◌∷◌, ◌++◌, length, is_some, unwrap_or, slice_get}
use Rattle.std.specs.List.{list_any}
use Rattle.roster_model.specs.Calendar.{Period, period_of}
use Rattle.roster_model.specs.Record.{Record, PeriodRecord, is_of, field}
use Rattle.roster_model.specs.Code.{Code, FieldCount, FieldForm, GivenTwice}

-- the month that a record of a period gives
abbrev pub month_in : Record → Period
month_in fields = unwrap_or (period_of (field fields 1)) (record { year = 0; month = 0 })

-- the month of the first record
unfoldable pub period_in : List Record → Period
period_in records = month_in (unwrap_or (slice_get records 0) [])

-- what a record of a period has to meet by itself
abbrev pub own_conditions : Record → List (Code × Bool)
own_conditions fields =
    (FieldCount, length fields == 2) ∷ (FieldForm, is_some (period_of (field fields 1))) ∷ []

abbrev pub conditions : List Record → Record → List (Code × Bool)
conditions before fields =
    own_conditions fields ++ (GivenTwice, not (list_any (is_of PeriodRecord) before)) ∷ []
