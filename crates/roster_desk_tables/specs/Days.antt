-- On how many days of the month somebody works.
use Rattle.std.specs.Prelude.{◌≡◌, ◌+◌, List}
use Rattle.std.specs.List.{count_by, range_with_len}
use Rattle.roster_model.specs.Calendar.{Days}
use Rattle.roster_model.specs.records.Duty.{Duty}
use Rattle.roster_restrules.specs.Busy.{is_busy}
use Rattle.roster_desk_tables.specs.declared.month.MonthDays.{MonthDays}

-- a duty of the list touches so many days of the month, and none touches the others
pub record AreMonthDays (days : Days) (list : List Duty) (month : MonthDays) : Type 0 where
  pub work : month.work ≡ count_by (is_busy days list) (range_with_len 0 days.month_days)
  pub free : month.work + month.free ≡ days.month_days
