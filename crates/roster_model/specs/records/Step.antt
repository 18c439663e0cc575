-- `step,WORD,W` and `step,WORD,W,NUMBER`: what a worker does in a search that is replayed.
use Rattle.std.specs.Prelude.{ℕ, Bool, true, false, not, ◌&&◌, ◌||◌, ◌==◌, if◌then◌else◌, List, [], ◌∷◌, length, Option, find, is_some, nat_lt, codes, unwrap_or}
use Rattle.std.specs.Option.{option_map_or}
use Rattle.std.specs.Str.{bytes_eq}
use Rattle.roster_model.specs.declared.limits.TheConstants.{LAST_WORKER, MOST_STEP_NUMBER, MOST_STEPS}
use Rattle.roster_model.specs.Form.{is_number, is_amount, number_of}
use Rattle.roster_model.specs.Record.{Record, StepRecord, field, amount_of, entries_of}
use Rattle.roster_model.specs.Code.{Code, FieldCount, FieldForm, OutOfLimits, NoRoom}

-- What a worker does; each is named by its number, from 0. Parts of the search wait in a list until a
-- worker takes one.
pub data Step : Type 0 where
  -- takes the part at a place of the list, from 0
  Take : ℕ → ℕ → Step
  -- gives half of its part to the list
  Halve : ℕ → Step
  -- goes on to the next person, if its part has one line
  Descend : ℕ → Step
  -- gives its part back to the list
  Back : ℕ → Step
  -- searches its part, and looks at the incumbent at each node whose number the last number divides; never
  -- if that is 0
  Search : ℕ → ℕ → Step

-- the same without its numbers
pub data Move : Type 0 where
  ToTake : Move
  ToHalve : Move
  ToDescend : Move
  ToGiveBack : Move
  ToSearch : Move

abbrev pub moves : List Move
moves = ToTake ∷ ToHalve ∷ ToDescend ∷ ToGiveBack ∷ ToSearch ∷ []

-- the word in the second field
abbrev pub word_of_move : Move → List ℕ
word_of_move ToTake = codes "take"
word_of_move ToHalve = codes "halve"
word_of_move ToDescend = codes "descend"
word_of_move ToGiveBack = codes "back"
word_of_move ToSearch = codes "search"

-- it has a number besides that of its worker
abbrev pub is_numbered : Move → Bool
is_numbered ToTake = true
is_numbered ToHalve = false
is_numbered ToDescend = false
is_numbered ToGiveBack = false
is_numbered ToSearch = true

abbrev pub step_by : Move → ℕ → ℕ → Step
step_by ToTake worker number = Take worker number
step_by ToHalve worker number = Halve worker
step_by ToDescend worker number = Descend worker
step_by ToGiveBack worker number = Back worker
step_by ToSearch worker number = Search worker number

-- ---- columns

-- what the word in the second field stands for
abbrev pub move_in : Record → Option Move
move_in fields = find (λ move. bytes_eq (field fields 1) (word_of_move move)) moves

abbrev pub worker_in : Record → List ℕ
worker_in fields = field fields 2

abbrev pub number_in : Record → List ℕ
number_in fields = field fields 3

-- it has to have the fourth field
abbrev pub has_number : Record → Bool
has_number fields = option_map_or is_numbered (move_in fields) false

-- the number besides the worker's, 0 if there is none
abbrev pub number_besides : Record → ℕ
number_besides fields = if has_number fields then amount_of (number_in fields) else 0

-- ---- what a record of a step adds

unfoldable pub step_of : List Record → Record → Step
step_of before fields =
    step_by (unwrap_or (move_in fields) ToGiveBack) (amount_of (worker_in fields)) (number_besides fields)

abbrev pub steps_in : List Record → List Step
steps_in records = entries_of StepRecord step_of records

-- ---- what it has to meet

abbrev pub columns : Record → ℕ
columns fields = if has_number fields then 4 else 3

abbrev pub is_formed : Record → Bool
is_formed fields =
    is_some (move_in fields) && is_number (worker_in fields)
    && (not (has_number fields) || is_number (number_in fields))

abbrev pub is_limited : Record → Bool
is_limited fields =
    is_amount LAST_WORKER (number_of (worker_in fields))
    && (not (has_number fields) || is_amount MOST_STEP_NUMBER (number_of (number_in fields)))

abbrev pub conditions : List Record → Record → List (Code × Bool)
conditions before fields =
    (FieldCount, length fields == columns fields)
    ∷ (FieldForm, is_formed fields)
    ∷ (OutOfLimits, is_limited fields)
    ∷ (NoRoom, nat_lt (length (steps_in before)) MOST_STEPS)
    ∷ []
