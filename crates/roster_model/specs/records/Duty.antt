-- `duty,ID,P,PAIRING,STATION,REPORT,RELEASE`: a duty of a pairing; with C and a person in place of P
-- and the pairing, a duty that is fixed for the person.
use Rattle.std.specs.Prelude.{ℕ, Bool, true, false, not, ◌&&◌, ◌||◌, ◌==◌, if◌then◌else◌, List, [], ◌∷◌, length, Option, Some, None, is_some, option_map, nat_lt, nat_le, unwrap_or, slice_get, codes}
use Rattle.std.specs.List.{filter, last_or}
use Rattle.std.specs.Option.{option_map_or}
use Rattle.std.specs.Str.{bytes_eq}
use Rattle.roster_model.specs.declared.limits.TheConstants.{MOST_DUTIES}
use Rattle.roster_model.specs.Form.{is_identifier}
use Rattle.roster_model.specs.Calendar.{Days, instant_of, month_end, month_start}
use Rattle.roster_model.specs.Window.{is_in_window}
use Rattle.roster_model.specs.Record.{Record, DutyRecord, field, minute_of, next_row, place_named, entries_of}
use Rattle.roster_model.specs.Code.{Code, FieldCount, FieldForm, GivenTwice, NotGiven, OutOfSequence, OutOfWindow, NoRoom, WrongStart, Busy}
use Rattle.roster_model.specs.records.Base.{Base, bases_in, base_at}
use Rattle.roster_model.specs.records.Crew.{persons_in, person_place, home_at}
use Rattle.roster_model.specs.records.Pairing.{pairings_in, pairing_place}

-- whose duty it is: that of a pairing, or of a person for whom it is fixed, by its or their place
pub data Holder : Type 0 where
  OfPairing : ℕ → Holder
  OfPerson : ℕ → Holder

abbrev pub is_held_by_pairing : ℕ → Holder → Bool
is_held_by_pairing p (OfPairing q) = q == p
is_held_by_pairing p (OfPerson k) = false

abbrev pub is_held_by_person : ℕ → Holder → Bool
is_held_by_person k (OfPairing p) = false
is_held_by_person k (OfPerson j) = j == k

-- A flight from off to on, both instants, that the person of its duty operates or is positioned by.
pub record Sector : Type 0 where
  pub operates : Bool
  pub off : ℕ
  pub on : ℕ

-- A duty from its report to its later release, both instants; `station` is where it reports. Its
-- sectors are in the order of their records.
pub record Duty : Type 0 where
  pub id : List ℕ
  pub holder : Holder
  pub station : List ℕ
  pub report : ℕ
  pub release : ℕ
  pub sectors : List Sector
  pub row : ℕ

-- ---- columns

abbrev pub id_in : Record → List ℕ
id_in fields = field fields 1

abbrev pub letter_in : Record → List ℕ
letter_in fields = field fields 2

abbrev pub holder_name_in : Record → List ℕ
holder_name_in fields = field fields 3

abbrev pub station_in : Record → List ℕ
station_in fields = field fields 4

abbrev pub report_in : Record → List ℕ
report_in fields = field fields 5

abbrev pub release_in : Record → List ℕ
release_in fields = field fields 6

-- ---- what a record of a duty adds: the records of its sectors come after it

abbrev pub is_pairing_letter : List ℕ → Bool
is_pairing_letter letter = bytes_eq letter (codes "P")

abbrev pub is_person_letter : List ℕ → Bool
is_person_letter letter = bytes_eq letter (codes "C")

-- its holder, if that was given before: the letter says among which names it is looked up
abbrev pub holder_in : List Record → Record → Option Holder
holder_in before fields =
    if is_pairing_letter (letter_in fields)
    then option_map OfPairing (pairing_place before (holder_name_in fields))
    else option_map OfPerson (person_place before (holder_name_in fields))

unfoldable pub duty_of : List Record → Record → Duty
duty_of before fields = record {
  id = id_in fields;
  holder = unwrap_or (holder_in before fields) (OfPairing 0);
  station = station_in fields;
  report = minute_of (report_in fields);
  release = minute_of (release_in fields);
  sectors = [];
  row = next_row before;
}

abbrev pub duties_in : List Record → List Duty
duties_in records = entries_of DutyRecord duty_of records

-- the place of the duty with the name, if it is among those of the records
abbrev pub duty_place : List Record → List ℕ → Option ℕ
duty_place records name = place_named (λ duty. duty.id) name (duties_in records)

-- the duty of the pairing that was given last, of some duties in the order given
abbrev pub last_duty : List Duty → ℕ → Option Duty
last_duty duties p = last_or None (filter (λ duty. is_held_by_pairing p duty.holder) duties)

-- ---- what it has to meet

abbrev pub is_formed : Record → Bool
is_formed fields =
    is_identifier (id_in fields)
    && (is_pairing_letter (letter_in fields) || is_person_letter (letter_in fields))
    && is_identifier (holder_name_in fields) && is_identifier (station_in fields)
    && is_some (instant_of (report_in fields)) && is_some (instant_of (release_in fields))

-- the base by whose clocks a duty of the pairing at place p is judged
abbrev pub base_of_pairing : List Record → ℕ → Base
base_of_pairing before p =
    base_at (bases_in before)
    (unwrap_or (option_map (λ pairing. pairing.base) (slice_get (pairings_in before) p)) 0)

-- it is released after it reports, no earlier than the last duty was released
abbrev pub is_in_sequence : Option Duty → ℕ → ℕ → Bool
is_in_sequence last report release =
    nat_lt report release && option_map_or (λ duty. nat_le duty.release report) last true

-- the instant lies in the month
abbrev pub is_in_month : Days → ℕ → Bool
is_in_month days t = nat_le (month_start days) t && nat_lt t (month_end days)

-- it isn't the first duty of its pairing, or it reports at the pairing's base in the month there
abbrev pub starts_well : Option Duty → Base → List ℕ → ℕ → Bool
starts_well last base station report =
    is_some last || bytes_eq station base.id && is_in_month base.days report

-- what a duty has to meet besides, as one of the pairing at place p
abbrev pub conditions_of_pairing : List Record → ℕ → List ℕ → ℕ → ℕ → List (Code × Bool)
conditions_of_pairing before p station report release =
    (OutOfSequence, is_in_sequence (last_duty (duties_in before) p) report release)
    ∷ (OutOfWindow, is_in_window (base_of_pairing before p).days report release)
    ∷ (NoRoom, nat_lt (length (duties_in before)) MOST_DUTIES)
    ∷ (WrongStart, starts_well (last_duty (duties_in before) p) (base_of_pairing before p) station report)
    ∷ []

-- The same as a fixed duty of the person at place k: fixed duties may be given in any order. `is_busy`
-- tells whether a person is busy in a minute between two instants, by the records before.
abbrev pub conditions_of_person : (ℕ → ℕ → ℕ → Bool) → List Record → ℕ → ℕ → ℕ → List (Code × Bool)
conditions_of_person is_busy before k report release =
    (OutOfSequence, nat_lt report release)
    ∷ (OutOfWindow, is_in_window (home_at (bases_in before) (persons_in before) k).days report release)
    ∷ (NoRoom, nat_lt (length (duties_in before)) MOST_DUTIES)
    ∷ (Busy, not (is_busy k report release))
    ∷ []

-- the same as the duty of a holder that was given before, or of none
abbrev pub conditions_held : (ℕ → ℕ → ℕ → Bool) → List Record → Option Holder → List ℕ → ℕ → ℕ
    → List (Code × Bool)
conditions_held is_busy before None station report release = (NotGiven, false) ∷ []
conditions_held is_busy before (Some (OfPairing p)) station report release =
    conditions_of_pairing before p station report release
conditions_held is_busy before (Some (OfPerson k)) station report release =
    conditions_of_person is_busy before k report release

abbrev pub conditions : (ℕ → ℕ → ℕ → Bool) → List Record → Record → List (Code × Bool)
conditions is_busy before fields =
    (FieldCount, length fields == 7)
    ∷ (FieldForm, is_formed fields)
    ∷ (GivenTwice, not (is_some (duty_place before (id_in fields))))
    ∷ conditions_held is_busy before (holder_in before fields) (station_in fields)
    (minute_of (report_in fields)) (minute_of (release_in fields))
