-- Whose month differs between two rosters, and on which days.
use Rattle.std.specs.Prelude.{◌≡◌, ◌++◌, ◌&&◌, ◌+◌, ◌⊎◌, ◌+ℤ◌, ◌-ℤ◌, ℕ, ℤ, Bool, List, [], codes, false, length, nat_lt, pos, slice_index, true}
use Rattle.std.specs.Fmt.{decimal}
use Rattle.std.specs.List.{count_by, list_any, range_with_len}
use Rattle.jiff_core.specs.Calendar.{IsEpochDay, days_from_civil}
use Rattle.jiff_core.specs.Date.{epoch_day}
use Rattle.jiff_core.specs.declared.civil.date.Date.{Date}
use Rattle.roster_model.specs.declared.limits.TheConstants.{DAYS_BEFORE}
use Rattle.roster_model.specs.Calendar.{Days, Period}
use Rattle.roster_model.specs.Problem.{Problem, home_of}
use Rattle.roster_model.specs.records.Duty.{Duty, Holder, OfPairing, OfPerson}
use Rattle.roster_desk_words.specs.Words.{date_text}
use Rattle.roster_desk_tables.specs.Differences.{holder_name, is_moved_at}
use Rattle.roster_desk_tables.specs.Having.{Have}

-- ---- days

-- person k has the pairing whose duty it is by one of the rosters only
abbrev pub is_of_moved : List ℕ → List ℕ → ℕ → Holder → Bool
is_of_moved before after k (OfPairing p) = nat_lt p (length before) && is_moved_at before after k p
is_of_moved before after k (OfPerson j) = false

-- so it is, and the duty shares a minute with the day that begins and ends at these instants
abbrev pub touches : List ℕ → List ℕ → ℕ → ℕ → ℕ → Duty → Bool
touches before after k from to duty =
    is_of_moved before after k duty.holder && nat_lt duty.report to && nat_lt from duty.release

-- the days of the window by the clocks of the person's home base
abbrev pub days_of : Problem → ℕ → Days
days_of problem k = (home_of problem k).days

-- such a duty touches day i
abbrev pub is_touched : Problem → List ℕ → List ℕ → ℕ → ℕ → Bool
is_touched problem before after k i =
    list_any
    (touches before after k (slice_index (days_of problem k).mid i) (slice_index (days_of problem k).mid (i + 1)))
    problem.duties

-- such a duty touches a day of the window
abbrev pub is_changed : Problem → List ℕ → List ℕ → ℕ → Bool
is_changed problem before after k =
    list_any (is_touched problem before after k) (range_with_len 0 (length (days_of problem k).eight))

-- ---- dates

-- how many days the window's day i lies behind 1 January 1970
abbrev pub number_of_day : Period → ℕ → ℤ
number_of_day period i = days_from_civil (pos period.year) period.month 1 +ℤ pos i -ℤ pos DAYS_BEFORE

-- the text is the date of the day of this number; the calendar ends long behind the last window
abbrev pub IsDate : ℤ → List ℕ → Type 0
IsDate number text =
    ((date : Date) × (epoch_day date ≡ number) × (text ≡ date_text date.year date.month date.day)) ⊎ (¬ IsEpochDay number × (text ≡ codes "-"))

-- the new text is the old one and the date of day i
pub record HasDate (problem : Problem) (i : ℕ) (old new : List ℕ) : Type 0 where
  pub date : List ℕ
  pub is : IsDate (number_of_day problem.period i) date
  pub text : new ≡ old ++ codes " " ++ date

-- so it is, if the day is told
abbrev pub MayHaveDate : Bool → Problem → ℕ → List ℕ → List ℕ → Type 0
MayHaveDate false problem i old new = new ≡ old
MayHaveDate true problem i old new = HasDate problem i old new

-- the dates of the days that are touched
abbrev pub HaveDates : Problem → List ℕ → List ℕ → ℕ → ℕ → List ℕ → List ℕ → Type 0
HaveDates problem before after k n old new =
    Have (λ i. MayHaveDate (is_touched problem before after k i) problem i) n old new

-- ---- lines

-- the new text is the old one and the line of person k, with each day that is touched
pub record HasLine (problem : Problem) (before after : List ℕ) (k : ℕ) (old new : List ℕ) : Type 0 where
  pub dates : List ℕ
  pub are : HaveDates problem before after k (length (days_of problem k).eight)
      (old ++ holder_name problem k ++ codes " changes on") dates
  pub text : new ≡ dates ++ codes "\n"

-- so it is, if the person's month differs
abbrev pub MayHaveLine : Bool → Problem → List ℕ → List ℕ → ℕ → List ℕ → List ℕ → Type 0
MayHaveLine false problem before after k old new = new ≡ old
MayHaveLine true problem before after k old new = HasLine problem before after k old new

abbrev pub HaveLines : Problem → List ℕ → List ℕ → ℕ → List ℕ → List ℕ → Type 0
HaveLines problem before after n old new =
    Have (λ k. MayHaveLine (is_changed problem before after k) problem before after k) n old new

-- ---- the whole text

-- a line for each person whose month differs, and how many they are
pub record IsChange (problem : Problem) (before after all : List ℕ) : Type 0 where
  pub lines : List ℕ
  pub are : HaveLines problem before after (length problem.persons) [] lines
  pub text : all ≡ lines ++ decimal (count_by (is_changed problem before after) (range_with_len 0 (length problem.persons)))
      ++ codes " persons change\n"
