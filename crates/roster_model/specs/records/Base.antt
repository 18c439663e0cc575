-- `base,ID,ZONE`: the home of persons, and where pairings begin.
use Rattle.std.specs.Prelude.{ℕ, Bool, not, ◌&&◌, ◌==◌, List, [], ◌∷◌, length, Option, is_some, is_ok, nat_lt, unwrap_or, slice_get}
use Rattle.std.specs.Result.{result_unwrap_or}
use Rattle.roster_model.specs.declared.limits.TheConstants.{MOST_BASES}
use Rattle.roster_model.specs.Form.{is_identifier, is_zone_text}
use Rattle.roster_model.specs.Calendar.{Days}
use Rattle.roster_model.specs.Zone.{days_of_zone}
use Rattle.roster_model.specs.Record.{Record, BaseRecord, field, place_named, entries_of}
use Rattle.roster_model.specs.Code.{Code, FieldCount, FieldForm, GivenTwice, ZoneRefused, NoRoom}
use Rattle.roster_model.specs.records.Period.{period_in}

-- a base: its name, and its days as its clocks show them
pub record Base : Type 0 where
  pub id : List ℕ
  pub days : Days

abbrev pub no_base : Base
no_base = record { id = []; days = record { month_days = 0; mid = []; eight = []; ten = [] } }

-- ---- columns

abbrev pub id_in : Record → List ℕ
id_in fields = field fields 1

abbrev pub zone_in : Record → List ℕ
zone_in fields = field fields 2

-- ---- what a record of a base adds

unfoldable pub base_of : List Record → Record → Base
base_of before fields = record {
  id = id_in fields;
  days = result_unwrap_or (days_of_zone (period_in before) (zone_in fields)) no_base.days;
}

abbrev pub bases_in : List Record → List Base
bases_in records = entries_of BaseRecord base_of records

-- the place of the base with the name, if it is among those of the records
abbrev pub base_place : List Record → List ℕ → Option ℕ
base_place records name = place_named (λ base. base.id) name (bases_in records)

-- the base at a place
abbrev pub base_at : List Base → ℕ → Base
base_at bases place = unwrap_or (slice_get bases place) no_base

-- ---- what it has to meet

abbrev pub conditions : List Record → Record → List (Code × Bool)
conditions before fields =
    (FieldCount, length fields == 3)
    ∷ (FieldForm, is_identifier (id_in fields) && is_zone_text (zone_in fields))
    ∷ (GivenTwice, not (is_some (base_place before (id_in fields))))
    ∷ (ZoneRefused, is_ok (days_of_zone (period_in before) (zone_in fields)))
    ∷ (NoRoom, nat_lt (length (bases_in before)) MOST_BASES)
    ∷ []
