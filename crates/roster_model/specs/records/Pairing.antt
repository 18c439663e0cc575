-- `pairing,ID,BASE,PENALTY`: duties in a row for one person, of which the first reports at
-- the base.
use Rattle.std.specs.Prelude.{ℕ, Bool, not, ◌&&◌, ◌==◌, List, [], ◌∷◌, length, Option, is_some, nat_lt, unwrap_or}
use Rattle.roster_model.specs.declared.limits.TheConstants.{MOST_PAIRINGS, MOST_PENALTY}
use Rattle.roster_model.specs.Form.{is_identifier, is_number, is_amount, number_of}
use Rattle.roster_model.specs.Record.{Record, PairingRecord, field, amount_of, next_row, place_named, entries_of}
use Rattle.roster_model.specs.Code.{Code, FieldCount, FieldForm, OutOfLimits, GivenTwice, NotGiven, NoRoom}
use Rattle.roster_model.specs.records.Base.{base_place}

-- A pairing. `base` is the place of its base, `penalty` what it costs to leave it open.
pub record Pairing : Type 0 where
  pub id : List ℕ
  pub base : ℕ
  pub penalty : ℕ
  pub row : ℕ

-- ---- columns

abbrev pub id_in : Record → List ℕ
id_in fields = field fields 1

abbrev pub base_in : Record → List ℕ
base_in fields = field fields 2

abbrev pub penalty_in : Record → List ℕ
penalty_in fields = field fields 3

-- ---- what a record of a pairing adds

unfoldable pub pairing_of : List Record → Record → Pairing
pairing_of before fields = record {
  id = id_in fields;
  base = unwrap_or (base_place before (base_in fields)) 0;
  penalty = amount_of (penalty_in fields);
  row = next_row before;
}

abbrev pub pairings_in : List Record → List Pairing
pairings_in records = entries_of PairingRecord pairing_of records

-- the place of the pairing with the name, if it is among those of the records
abbrev pub pairing_place : List Record → List ℕ → Option ℕ
pairing_place records name = place_named (λ pairing. pairing.id) name (pairings_in records)

-- ---- what it has to meet

abbrev pub is_formed : Record → Bool
is_formed fields =
    is_identifier (id_in fields) && is_identifier (base_in fields) && is_number (penalty_in fields)

abbrev pub conditions : List Record → Record → List (Code × Bool)
conditions before fields =
    (FieldCount, length fields == 4)
    ∷ (FieldForm, is_formed fields)
    ∷ (OutOfLimits, is_amount MOST_PENALTY (number_of (penalty_in fields)))
    ∷ (GivenTwice, not (is_some (pairing_place before (id_in fields))))
    ∷ (NotGiven, is_some (base_place before (base_in fields)))
    ∷ (NoRoom, nat_lt (length (pairings_in before)) MOST_PAIRINGS)
    ∷ []
