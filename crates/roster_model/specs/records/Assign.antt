-- `assign,PAIRING,CREW`: who flies a pairing of the roster that is to be checked; `-` is nobody.
use Rattle.std.specs.Prelude.{ℕ, Bool, false, not, ◌&&◌, ◌||◌, ◌==◌, if◌then◌else◌, List, [], ◌∷◌, length, map, Option, None, is_some, codes, unwrap_or}
use Rattle.std.specs.List.{find, list_any, range_with_len}
use Rattle.std.specs.Option.{option_and_then, option_map_or}
use Rattle.std.specs.Str.{bytes_eq}
use Rattle.roster_model.specs.Form.{is_identifier}
use Rattle.roster_model.specs.Record.{Record, AssignRecord, field, entries_of}
use Rattle.roster_model.specs.Code.{Code, FieldCount, FieldForm, GivenTwice, NotGiven}
use Rattle.roster_model.specs.records.Crew.{persons_in, person_place}
use Rattle.roster_model.specs.records.Pairing.{pairings_in, pairing_place}

-- The pairing at a place, and the place of the person who flies it, if anybody does.
pub record Assign : Type 0 where
  pub pairing : ℕ
  pub person : Option ℕ

abbrev pub is_assign_of : ℕ → Assign → Bool
is_assign_of p assign = assign.pairing == p

-- ---- columns

abbrev pub pairing_in : Record → List ℕ
pairing_in fields = field fields 1

abbrev pub crew_in : Record → List ℕ
crew_in fields = field fields 2

-- ---- what a record of an assignment adds

abbrev pub is_nobody : List ℕ → Bool
is_nobody text = bytes_eq text (codes "-")

unfoldable pub assign_of : List Record → Record → Assign
assign_of before fields = record {
  pairing = unwrap_or (pairing_place before (pairing_in fields)) 0;
  person = if is_nobody (crew_in fields) then None else person_place before (crew_in fields);
}

abbrev pub assigns_in : List Record → List Assign
assigns_in records = entries_of AssignRecord assign_of records

-- the number of the pairing at place p in the roster: the place of the person who flies it, or the
-- number of persons if nobody does
abbrev pub assigned_number : ℕ → List Assign → ℕ → ℕ
assigned_number persons assigns p =
    unwrap_or (option_and_then (λ assign. assign.person) (find (is_assign_of p) assigns)) persons

-- the roster of some assignments; what none of them names is open
abbrev pub assigned_by : ℕ → ℕ → List Assign → List ℕ
assigned_by persons pairings assigns = map (assigned_number persons assigns) (range_with_len 0 pairings)

-- the roster that the records give
abbrev pub assigned_in : List Record → List ℕ
assigned_in records =
    assigned_by (length (persons_in records)) (length (pairings_in records)) (assigns_in records)

-- ---- what it has to meet

abbrev pub is_formed : Record → Bool
is_formed fields =
    is_identifier (pairing_in fields) && (is_identifier (crew_in fields) || is_nobody (crew_in fields))

-- the pairing at the place, if it is one, is assigned already
abbrev pub is_assigned : List Assign → Option ℕ → Bool
is_assigned assigns pairing = option_map_or (λ p. list_any (is_assign_of p) assigns) pairing false

-- the pairing was given before, and so was the person, if it names one
abbrev pub is_known : List Record → Record → Bool
is_known before fields =
    is_some (pairing_place before (pairing_in fields))
    && (is_nobody (crew_in fields) || is_some (person_place before (crew_in fields)))

abbrev pub conditions : List Record → Record → List (Code × Bool)
conditions before fields =
    (FieldCount, length fields == 3)
    ∷ (FieldForm, is_formed fields)
    ∷ (GivenTwice, not (is_assigned (assigns_in before) (pairing_place before (pairing_in fields))))
    ∷ (NotGiven, is_known before fields)
    ∷ []
