-- What of a month and its published roster the book of the next month has.
use Rattle.std.specs.Prelude.{◌≡◌, ℕ, ◌+◌, ◌<◌, ◌==◌, Bool, nat_lt, if◌then◌else◌, List, [], length, map, min, max, Ok, option_map, slice_get, unwrap_or}
use Rattle.std.specs.List.{filter}
use Rattle.roster_model.specs.Calendar.{Days, Period}
use Rattle.roster_model.specs.Costs.{flight_of}
use Rattle.roster_model.specs.Places.{set_of}
use Rattle.roster_model.specs.Problem.{Problem, eleven_of, home_of, leaves_of, target_of, weight_of, year_of}
use Rattle.roster_model.specs.Rules.{duty_list}
use Rattle.roster_model.specs.Window.{is_in_window, midnight}
use Rattle.roster_model.specs.Zone.{days_of_zone}
use Rattle.roster_model.specs.records.Duty.{Duty, OfPerson}
use Rattle.roster_model.specs.records.Leave.{Leave}
use Rattle.roster_desk_carry_judged.specs.Months.{next_month}
use Rattle.roster_desk_carry_judged.specs.declared.ledger.Before.{Before}

-- ---- duties

-- the duty lies in the window
abbrev pub lies_in : Days → Duty → Bool
lies_in days duty = is_in_window days duty.report duty.release

-- The duty as it happens: its station, its times and its sectors. Its name, whose it is in a book, and the
-- number of its record are left aside.
abbrev pub bare : Duty → Duty
bare duty = record duty { id = []; holder = OfPerson 0; row = 0 }

-- ---- leave

-- the instants at which a window begins and ends
abbrev pub window_start : Days → ℕ
window_start days = midnight days 0

abbrev pub window_end : Days → ℕ
window_end days = midnight days (length days.eight)

-- from when to when a leave lies in the window
abbrev pub part_in : Days → Leave → ℕ × ℕ
part_in days leave = (max leave.from (window_start days), min leave.to (window_end days))

-- it does so for a minute at least
abbrev pub reaches_into : Days → Leave → Bool
reaches_into days leave = nat_lt (part_in days leave).0 (part_in days leave).1

-- from when to when it is
abbrev pub span_of : Leave → ℕ × ℕ
span_of leave = (leave.from, leave.to)

-- ---- minutes of flight

-- what a person has flown in the calendar year of the next month, with this month's flight
abbrev pub year_after : Period → ℕ → ℕ → ℕ
year_after month year flight = if month.month == 12 then 0 else year + flight

-- of person k, what was flown before this month
abbrev pub year_before : List Before → ℕ → ℕ
year_before before k = unwrap_or (option_map (λ flown. flown.year) (slice_get before k)) 0

abbrev pub eleven_before : List Before → ℕ → ℕ
eleven_before before k = unwrap_or (option_map (λ flown. flown.eleven) (slice_get before k)) 0

-- the minutes of flight of person k in the month, by the roster
abbrev pub flight_in : Problem → List ℕ → ℕ → ℕ
flight_in book places k = flight_of book k (set_of k places)

-- ---- clocks

-- A zone text has the days of the home base of person k in both books' months.
pub record HasZone (book next : Problem) (k : ℕ) (zone : List ℕ) : Type 0 where
  pub before : days_of_zone book.period zone ≡ Ok (home_of book k).days
  pub after : days_of_zone next.period zone ≡ Ok (home_of next k).days

-- ---- the next month

-- the name of the person at place k
abbrev pub person_name : Problem → ℕ → List ℕ
person_name problem k = unwrap_or (option_map (λ person. person.id) (slice_get problem.persons k)) []

-- Person k is the same in the next month's book.
pub record IsSamePerson (book next : Problem) (k : ℕ) : Type 0 where
  pub name : person_name next k ≡ person_name book k
  pub home : (home_of next k).id ≡ (home_of book k).id
  pub target : target_of next k ≡ target_of book k

-- One zone text has the days of the home base of person k in both.
abbrev pub HasOneZone : Problem → Problem → ℕ → Type 0
HasOneZone book next k = (zone : List ℕ) × HasZone book next k zone

-- Person k has flown this month's flight more.
pub record HasFlown (book : Problem) (places : List ℕ) (before : List Before) (next : Problem)
    (k : ℕ) : Type 0 where
  pub year : year_of next k ≡ year_after book.period (year_before before k) (flight_in book places k)
  pub eleven : eleven_of next k ≡ eleven_before before k + flight_in book places k

-- Person k has just those duties of this month's duty list that lie in the next month's window.
abbrev pub HasDuties : Problem → List ℕ → Problem → ℕ → Type 0
HasDuties book places next k =
    map bare (duty_list next k [])
    ≡ map bare (filter (lies_in (home_of next k).days) (duty_list book k (set_of k places)))

-- Person k has just those parts of leave that lie there.
abbrev pub HasLeave : Problem → Problem → ℕ → Type 0
HasLeave book next k =
    map span_of (leaves_of next k)
    ≡ map (part_in (home_of next k).days) (filter (reaches_into (home_of next k).days) (leaves_of book k))

-- Person k is the same, with what they carry.
pub record IsCarriedPerson (book : Problem) (places : List ℕ) (before : List Before) (next : Problem)
    (k : ℕ) : Type 0 where
  pub same : IsSamePerson book next k
  pub clocks : HasOneZone book next k
  pub flown : HasFlown book places before next k
  pub duties : HasDuties book places next k
  pub leaves : HasLeave book next k

-- It is the book of the next month and as many persons, and has no pairing.
pub record IsOfNextMonth (book next : Problem) : Type 0 where
  pub period : next.period ≡ next_month book.period
  pub weight : weight_of next ≡ weight_of book
  pub pairings : next.pairings ≡ []
  pub persons : length next.persons ≡ length book.persons

-- It has this month's persons with what they carry into it.
pub record IsCarried (book : Problem) (places : List ℕ) (before : List Before) (next : Problem)
    : Type 0 where
  pub month : IsOfNextMonth book next
  pub each : (k : ℕ) → k < length book.persons → IsCarriedPerson book places before next k
