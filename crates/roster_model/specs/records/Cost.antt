-- `cost,CREW,PAIRING,UNITS`: what it costs that a person flies a pairing.
use Rattle.std.specs.Prelude.{ℕ, ℤ, Bool, false, not, ◌&&◌, ◌==◌, List, [], ◌∷◌, length, Option, Some, None, is_some, nat_le, nat_lt, option_map, unsigned_abs, unwrap_or}
use Rattle.std.specs.List.{find}
use Rattle.roster_model.specs.declared.limits.TheConstants.{MOST_COSTS, MOST_UNITS}
use Rattle.roster_model.specs.Form.{is_identifier, is_number, number_of}
use Rattle.roster_model.specs.Record.{Record, CostRecord, field, entries_of}
use Rattle.roster_model.specs.Code.{Code, FieldCount, FieldForm, OutOfLimits, GivenTwice, NotGiven, NoRoom}
use Rattle.roster_model.specs.records.Crew.{person_place}
use Rattle.roster_model.specs.records.Pairing.{pairing_place}

-- The cost units of the pairing at a place with the person at a place. Units may be negative.
pub record Cost : Type 0 where
  pub person : ℕ
  pub pairing : ℕ
  pub units : ℤ

abbrev pub is_cost_of : ℕ → ℕ → Cost → Bool
is_cost_of k p cost = (cost.person == k) && (cost.pairing == p)

-- the units of person k with pairing p, if they are given
abbrev pub units_given : List Cost → ℕ → ℕ → Option ℤ
units_given costs k p = option_map (λ cost. cost.units) (find (is_cost_of k p) costs)

-- ---- columns

abbrev pub crew_in : Record → List ℕ
crew_in fields = field fields 1

abbrev pub pairing_in : Record → List ℕ
pairing_in fields = field fields 2

abbrev pub units_in : Record → List ℕ
units_in fields = field fields 3

-- ---- what a record of a cost adds

unfoldable pub cost_of : List Record → Record → Cost
cost_of before fields = record {
  person = unwrap_or (person_place before (crew_in fields)) 0;
  pairing = unwrap_or (pairing_place before (pairing_in fields)) 0;
  units = number_of (units_in fields);
}

abbrev pub costs_in : List Record → List Cost
costs_in records = entries_of CostRecord cost_of records

-- ---- what it has to meet

abbrev pub is_formed : Record → Bool
is_formed fields =
    is_identifier (crew_in fields) && is_identifier (pairing_in fields) && is_number (units_in fields)

-- the number is no further from 0 than units may be
abbrev pub is_limited : ℤ → Bool
is_limited units = nat_le (unsigned_abs units) MOST_UNITS

-- what it has to meet besides, of a person and a pairing that were given before, or weren't
abbrev pub conditions_between : List Record → Option ℕ → Option ℕ → List (Code × Bool)
conditions_between before (Some k) (Some p) =
    (GivenTwice, not (is_some (units_given (costs_in before) k p)))
    ∷ (NoRoom, nat_lt (length (costs_in before)) MOST_COSTS)
    ∷ []
conditions_between before (Some k) None = (NotGiven, false) ∷ []
conditions_between before None pairing = (NotGiven, false) ∷ []

abbrev pub conditions : List Record → Record → List (Code × Bool)
conditions before fields =
    (FieldCount, length fields == 4)
    ∷ (FieldForm, is_formed fields)
    ∷ (OutOfLimits, is_limited (number_of (units_in fields)))
    ∷ conditions_between before (person_place before (crew_in fields)) (pairing_place before (pairing_in fields))
