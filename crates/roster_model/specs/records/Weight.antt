-- `weight,W`: what it costs that a person's flight in the month misses the target by a minute.
use Rattle.std.specs.Prelude.{ℕ, Bool, not, ◌==◌, List, [], ◌∷◌, length, Option, is_some, slice_get}
use Rattle.roster_model.specs.declared.limits.TheConstants.{MOST_WEIGHT}
use Rattle.roster_model.specs.Form.{is_number, is_amount, number_of}
use Rattle.roster_model.specs.Record.{Record, WeightRecord, field, amount_of, entries_of}
use Rattle.roster_model.specs.Code.{Code, FieldCount, FieldForm, OutOfLimits, GivenTwice}

-- ---- columns

abbrev pub amount_in : Record → List ℕ
amount_in fields = field fields 1

-- ---- what a record of a weight adds

unfoldable pub weight_of : List Record → Record → ℕ
weight_of before fields = amount_of (amount_in fields)

abbrev pub weights_in : List Record → List ℕ
weights_in records = entries_of WeightRecord weight_of records

-- the weight, if it was given
abbrev pub weight_in : List Record → Option ℕ
weight_in records = slice_get (weights_in records) 0

-- ---- what it has to meet

abbrev pub conditions : List Record → Record → List (Code × Bool)
conditions before fields =
    (FieldCount, length fields == 2)
    ∷ (FieldForm, is_number (amount_in fields))
    ∷ (OutOfLimits, is_amount MOST_WEIGHT (number_of (amount_in fields)))
    ∷ (GivenTwice, not (is_some (weight_in before)))
    ∷ []
