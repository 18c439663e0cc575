-- `crew,ID,BASE,TARGET,YEAR,ELEVEN`: a person, and what they are to fly and have flown.
use Rattle.std.specs.Prelude.{ℕ, Bool, not, ◌&&◌, ◌==◌, List, [], ◌∷◌, length, Option, is_some, nat_lt, option_map, slice_get, unwrap_or}
use Rattle.roster_model.specs.declared.limits.TheConstants.{MOST_PERSONS, MOST_MINUTES}
use Rattle.roster_model.specs.Form.{is_identifier, is_number, is_amount, number_of}
use Rattle.roster_model.specs.Record.{Record, CrewRecord, field, amount_of, next_row, place_named, entries_of}
use Rattle.roster_model.specs.Code.{Code, FieldCount, FieldForm, OutOfLimits, GivenTwice, NotGiven, NoRoom}
use Rattle.roster_model.specs.records.Base.{Base, base_at, base_place}

-- A person. `base` is the place of the home base. `target`, `year` and `eleven` are minutes of
-- flight: what is wanted for the month, and what was flown before it in its calendar year and in the
-- eleven months before it.
pub record Person : Type 0 where
  pub id : List ℕ
  pub base : ℕ
  pub target : ℕ
  pub year : ℕ
  pub eleven : ℕ
  pub row : ℕ

-- ---- columns

abbrev pub id_in : Record → List ℕ
id_in fields = field fields 1

abbrev pub home_in : Record → List ℕ
home_in fields = field fields 2

abbrev pub target_in : Record → List ℕ
target_in fields = field fields 3

abbrev pub year_in : Record → List ℕ
year_in fields = field fields 4

abbrev pub eleven_in : Record → List ℕ
eleven_in fields = field fields 5

-- ---- what a record of a person adds

unfoldable pub person_of : List Record → Record → Person
person_of before fields = record {
  id = id_in fields;
  base = unwrap_or (base_place before (home_in fields)) 0;
  target = amount_of (target_in fields);
  year = amount_of (year_in fields);
  eleven = amount_of (eleven_in fields);
  row = next_row before;
}

abbrev pub persons_in : List Record → List Person
persons_in records = entries_of CrewRecord person_of records

-- the place of the person with the name, if they are among those of the records
abbrev pub person_place : List Record → List ℕ → Option ℕ
person_place records name = place_named (λ person. person.id) name (persons_in records)

-- the home base of the person at place k, of some bases and persons
abbrev pub home_at : List Base → List Person → ℕ → Base
home_at bases persons k =
    base_at bases (unwrap_or (option_map (λ person. person.base) (slice_get persons k)) 0)

-- ---- what it has to meet

abbrev pub is_formed : Record → Bool
is_formed fields =
    is_identifier (id_in fields) && is_identifier (home_in fields)
    && is_number (target_in fields) && is_number (year_in fields) && is_number (eleven_in fields)

abbrev pub is_limited : Record → Bool
is_limited fields =
    is_amount MOST_MINUTES (number_of (target_in fields)) && is_amount MOST_MINUTES
    (number_of (year_in fields))
    && is_amount MOST_MINUTES (number_of (eleven_in fields))

abbrev pub conditions : List Record → Record → List (Code × Bool)
conditions before fields =
    (FieldCount, length fields == 6)
    ∷ (FieldForm, is_formed fields)
    ∷ (OutOfLimits, is_limited fields)
    ∷ (GivenTwice, not (is_some (person_place before (id_in fields))))
    ∷ (NotGiven, is_some (base_place before (home_in fields)))
    ∷ (NoRoom, nat_lt (length (persons_in before)) MOST_PERSONS)
    ∷ []
