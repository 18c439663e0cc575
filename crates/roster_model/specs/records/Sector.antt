-- `sector,DUTY,O,OFF,ON`: a flight within a duty, operated or for positioning.
use Rattle.std.specs.Prelude.{ℕ, ◌+◌, ◌-◌, Bool, true, false, ◌&&◌, ◌||◌, ◌==◌, List, [], ◌∷◌, length, map, filter, Option, Some, None, is_some, nat_lt, nat_le, slice_get, codes}
use Rattle.std.specs.Option.{option_map_or, option_and_then}
use Rattle.std.specs.Str.{bytes_eq}
use Rattle.roster_model.specs.declared.limits.TheConstants.{MOST_SECTORS}
use Rattle.roster_model.specs.Form.{is_identifier}
use Rattle.roster_model.specs.Calendar.{instant_of}
use Rattle.roster_model.specs.Record.{Record, SectorRecord, field, minute_of, entries_of}
use Rattle.roster_model.specs.Code.{Code, FieldCount, FieldForm, NotGiven, OutOfSequence, NoRoom}
use Rattle.roster_model.specs.records.Duty.{Duty, Sector, duties_in, duty_place}

-- a sector as it is given: with the place of its duty, if that was given before
pub record GivenSector : Type 0 where
  pub duty : Option ℕ
  pub sector : Sector

-- ---- columns

abbrev pub duty_name_in : Record → List ℕ
duty_name_in fields = field fields 1

abbrev pub letter_in : Record → List ℕ
letter_in fields = field fields 2

abbrev pub off_in : Record → List ℕ
off_in fields = field fields 3

abbrev pub on_in : Record → List ℕ
on_in fields = field fields 4

-- ---- what a record of a sector adds

abbrev pub is_operated : List ℕ → Bool
is_operated letter = bytes_eq letter (codes "O")

abbrev pub is_positioning : List ℕ → Bool
is_positioning letter = bytes_eq letter (codes "P")

unfoldable pub sector_of : List Record → Record → GivenSector
sector_of before fields = record {
  duty = duty_place before (duty_name_in fields);
  sector = record {
    operates = is_operated (letter_in fields);
    off = minute_of (off_in fields);
    on = minute_of (on_in fields);
  };
}

abbrev pub sectors_in : List Record → List GivenSector
sectors_in records = entries_of SectorRecord sector_of records

abbrev pub is_of_duty : ℕ → GivenSector → Bool
is_of_duty d given = option_map_or (λ place. place == d) given.duty false

-- the sectors of the duty at place d, in the order given
abbrev pub sectors_at : List GivenSector → ℕ → List Sector
sectors_at given d = map (λ g. g.sector) (filter (is_of_duty d) given)

-- each duty with its sectors; the first duty is at place d
unfoldable pub flown_from : List GivenSector → ℕ → List Duty → List Duty
flown_from given d [] = []
flown_from given d (duty ∷ duties) =
    record duty { sectors = sectors_at given d } ∷ flown_from given (d + 1) duties

abbrev pub flown : List GivenSector → List Duty → List Duty
flown given duties = flown_from given 0 duties

-- ---- what it has to meet

abbrev pub is_formed : Record → Bool
is_formed fields =
    is_identifier (duty_name_in fields)
    && (is_operated (letter_in fields) || is_positioning (letter_in fields))
    && is_some (instant_of (off_in fields)) && is_some (instant_of (on_in fields))

-- the sector that was given last, operated or not
abbrev pub last_sector : List Sector → Option Sector
last_sector sectors = slice_get sectors (length sectors - 1)

-- it ends after it begins, within its duty, and begins no earlier than the duty's last sector ended
abbrev pub is_in_sequence : Duty → ℕ → ℕ → Bool
is_in_sequence duty off on =
    nat_lt off on && nat_le duty.report off && nat_le on duty.release
    && option_map_or (λ last. nat_le last.on off) (last_sector duty.sectors) true

-- the duty of the name as it is so far, if it was given before
abbrev pub duty_so_far : List Record → List ℕ → Option Duty
duty_so_far before name =
    option_and_then (slice_get (flown (sectors_in before) (duties_in before))) (duty_place before name)

-- what it has to meet besides, as a sector of a duty that was given before, or of none
abbrev pub conditions_within : List Record → Option Duty → ℕ → ℕ → List (Code × Bool)
conditions_within before None off on = (NotGiven, false) ∷ []
conditions_within before (Some duty) off on =
    (OutOfSequence, is_in_sequence duty off on)
    ∷ (NoRoom, nat_lt (length (sectors_in before)) MOST_SECTORS)
    ∷ []

abbrev pub conditions : List Record → Record → List (Code × Bool)
conditions before fields =
    (FieldCount, length fields == 5)
    ∷ (FieldForm, is_formed fields)
    ∷ conditions_within before (duty_so_far before (duty_name_in fields)) (minute_of (off_in fields)) (minute_of (on_in fields))
