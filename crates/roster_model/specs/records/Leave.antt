-- `leave,CREW,FROM,TO`: time in which a person has no duty.
use Rattle.std.specs.Prelude.{ℕ, Bool, false, not, ◌&&◌, ◌==◌, List, [], ◌∷◌, length, Option, Some, None, is_some, nat_lt, unwrap_or}
use Rattle.roster_model.specs.declared.limits.TheConstants.{MOST_LEAVES}
use Rattle.roster_model.specs.Form.{is_identifier}
use Rattle.roster_model.specs.Calendar.{instant_of}
use Rattle.roster_model.specs.Window.{is_in_window}
use Rattle.roster_model.specs.Record.{Record, LeaveRecord, field, minute_of, entries_of}
use Rattle.roster_model.specs.Code.{Code, FieldCount, FieldForm, NotGiven, OutOfSequence, OutOfWindow, NoRoom, Busy}
use Rattle.roster_model.specs.records.Base.{bases_in}
use Rattle.roster_model.specs.records.Crew.{persons_in, person_place, home_at}

-- A leave of the person at a place, from an instant to a later one.
pub record Leave : Type 0 where
  pub person : ℕ
  pub from : ℕ
  pub to : ℕ

abbrev pub is_leave_of : ℕ → Leave → Bool
is_leave_of k leave = leave.person == k

-- ---- columns

abbrev pub crew_in : Record → List ℕ
crew_in fields = field fields 1

abbrev pub from_in : Record → List ℕ
from_in fields = field fields 2

abbrev pub to_in : Record → List ℕ
to_in fields = field fields 3

-- ---- what a record of a leave adds

unfoldable pub leave_of : List Record → Record → Leave
leave_of before fields = record {
  person = unwrap_or (person_place before (crew_in fields)) 0;
  from = minute_of (from_in fields);
  to = minute_of (to_in fields);
}

abbrev pub leaves_in : List Record → List Leave
leaves_in records = entries_of LeaveRecord leave_of records

-- ---- what it has to meet

abbrev pub is_formed : Record → Bool
is_formed fields =
    is_identifier (crew_in fields) && is_some (instant_of (from_in fields)) && is_some
    (instant_of (to_in fields))

-- what it has to meet besides, as a leave of a person who was given before, or of none; `is_busy`
-- tells whether a person is busy in a minute between two instants, by the records before
abbrev pub conditions_held : (ℕ → ℕ → ℕ → Bool) → List Record → Option ℕ → ℕ → ℕ → List (Code × Bool)
conditions_held is_busy before None from to = (NotGiven, false) ∷ []
conditions_held is_busy before (Some k) from to =
    (OutOfSequence, nat_lt from to)
    ∷ (OutOfWindow, is_in_window (home_at (bases_in before) (persons_in before) k).days from to)
    ∷ (NoRoom, nat_lt (length (leaves_in before)) MOST_LEAVES)
    ∷ (Busy, not (is_busy k from to))
    ∷ []

abbrev pub conditions : (ℕ → ℕ → ℕ → Bool) → List Record → Record → List (Code × Bool)
conditions is_busy before fields =
    (FieldCount, length fields == 4)
    ∷ (FieldForm, is_formed fields)
    ∷ conditions_held is_busy before (person_place before (crew_in fields))
    (minute_of (from_in fields)) (minute_of (to_in fields))
