-- What may be wrong with a record. Of what is wrong with one record the first is told.
use Rattle.std.specs.Prelude.{ℕ, Bool, if◌then◌else◌, List, [], ◌∷◌, Option, Some, None}

pub data Code : Type 0 where
  -- the first record is no period
  NoPeriod : Code
  -- its kind is none of the command's
  UnknownKind : Code
  -- it has another number of fields than its kind
  FieldCount : Code
  -- a field isn't of its form
  FieldForm : Code
  -- a number is outside its limits
  OutOfLimits : Code
  -- it was given before
  GivenTwice : Code
  -- what it names wasn't given before
  NotGiven : Code
  -- an end isn't after its start, a sector is outside its duty, or one begins before the last one ends
  OutOfSequence : Code
  -- it reaches out of the window
  OutOfWindow : Code
  -- the zone text gives no days
  ZoneRefused : Code
  -- there are as many of its kind as there may be
  NoRoom : Code
  -- the first duty of a pairing reports away from its base, or outside the month there
  WrongStart : Code
  -- the person has a fixed duty or a leave in one of its minutes
  Busy : Code
  -- a pairing has no duty
  NoDuty : Code
  -- a person has more legal sets than there may be
  TooManyLines : Code

-- how a code is told
abbrev pub number_of_code : Code → ℕ
number_of_code NoPeriod = 1
number_of_code UnknownKind = 2
number_of_code FieldCount = 3
number_of_code FieldForm = 4
number_of_code OutOfLimits = 5
number_of_code GivenTwice = 6
number_of_code NotGiven = 7
number_of_code OutOfSequence = 8
number_of_code OutOfWindow = 9
number_of_code ZoneRefused = 10
number_of_code NoRoom = 11
number_of_code WrongStart = 12
number_of_code Busy = 13
number_of_code NoDuty = 14
number_of_code TooManyLines = 15

-- the code of the first condition that isn't met
abbrev pub first_unmet : List (Code × Bool) → Option Code
first_unmet [] = None
first_unmet (condition ∷ conditions) = if condition.1 then first_unmet conditions else Some condition.0
