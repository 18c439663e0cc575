-- The code of a record of a period: the first one, and one that comes later.
use Rattle.std.proofs.Common.{◌≡◌, ◌==◌, ◌<◌, Bool, true, false, not, List, [], ◌∷◌, length, Option, Some, None, refl}
use Rattle.std.specs.Prelude.{is_some}
use Rattle.roster_model.specs.Calendar.{period_of}
use Rattle.roster_model.specs.Record.{Record, Command, Solve, Check, Replay, PeriodRecord, is_of, field}
use Rattle.roster_model.specs.Code.{Code, NoPeriod, FieldCount, FieldForm, GivenTwice, first_unmet}
use Rattle.roster_model.specs.Faults.{IsFaultlessSoFar, code_of, code_of_kind, kind_in}
use Rattle.roster_model.specs.records.Period.{own_conditions}
use Rattle.roster_book.proofs.Sound.{has_period}

-- what is wrong with a period by itself
abbrev pub own_code : Record → Option Code
own_code fields = first_unmet (own_conditions fields)

-- a period may be in a book for each command
kind_of_period : (command : Command) (fields : Record) → is_of PeriodRecord fields ≡ true
    → kind_in command fields ≡ Some PeriodRecord
kind_of_period Solve fields h = rw h refl
kind_of_period Check fields h = rw h refl
kind_of_period Replay fields h = rw h refl

pub code_of-no_period : (command : Command) (fields : Record) → is_of PeriodRecord fields ≡ false
    → code_of command [] fields ≡ Some NoPeriod
unfolding code_of
code_of-no_period command fields h = rw h refl

given_once : (count form : Bool) → first_unmet ((FieldCount, count) ∷ (FieldForm, form) ∷ (GivenTwice, true) ∷ []) ≡ first_unmet ((FieldCount, count) ∷ (FieldForm, form) ∷ [])
given_once true true = refl
given_once true false = refl
given_once false form = refl

-- the first record has its own code alone
pub code_of-period : (command : Command) (fields : Record) → is_of PeriodRecord fields ≡ true
    → code_of command [] fields ≡ own_code fields
unfolding code_of code_of_kind
code_of-period command fields h =
    rw (h, kind_of_period command fields h)
    (given_once (length fields == 2) (is_some (period_of (field fields 1))))

twice_alone : (count form twice : Bool) → first_unmet ((FieldCount, count) ∷ (FieldForm, form) ∷ []) ≡ None
    → twice ≡ true
    → first_unmet ((FieldCount, count) ∷ (FieldForm, form) ∷ (GivenTwice, not twice) ∷ []) ≡ Some GivenTwice
twice_alone true true twice h e = rw e refl
twice_alone true false twice h e = cc h
twice_alone false form twice h e = cc h

-- a later one was given before, if nothing else is wrong with it
pub code_of_kind-again : (command : Command) (before : List Record) (fields : Record) → 0 < length before
    → IsFaultlessSoFar command before
    → own_code fields ≡ None → code_of_kind PeriodRecord before fields ≡ Some GivenTwice
unfolding code_of_kind
code_of_kind-again command before fields some faultless h =
    twice_alone _ _ _ h (has_period command before some faultless)

own_first : (count form again : Bool) (code : Code)
    → first_unmet ((FieldCount, count) ∷ (FieldForm, form) ∷ []) ≡ Some code
    → first_unmet ((FieldCount, count) ∷ (FieldForm, form) ∷ (GivenTwice, again) ∷ []) ≡ Some code
own_first true true again code h = cc h
own_first true false again code h = h
own_first false form again code h = h

pub code_of_kind-own : (before : List Record) (fields : Record) (code : Code) → own_code fields ≡ Some code
    → code_of_kind PeriodRecord before fields ≡ Some code
unfolding code_of_kind
code_of_kind-own before fields code h = own_first _ _ _ code h
