-- A duty, a leave or a sector more keeps the contents sound.
use Rattle.std.proofs.Common.{◌≡◌, ℕ, ◌+◌, ◌<◌, ◌≤◌, Bool, true, false, cond, List, length, Option, Some, None, inl, inr, refl, ◌∙◌, ap, arith}
use Rattle.std.specs.Prelude.{is_some, option_map, slice_get, unwrap_or}
use Rattle.std.specs.Option.{option_and_then}
use Rattle.std.proofs.lemmas.Option.{slice_get_cases}
use Rattle.std.proofs.lemmas.List.Elements.{All-push}
use Rattle.roster_model.specs.declared.limits.TheConstants.{MOST_DUTIES, MOST_LEAVES, MOST_SECTORS}
use Rattle.roster_model.specs.Record.{Record, DutyRecord, SectorRecord, LeaveRecord}
use Rattle.roster_model.specs.Problem.{Problem, tables_in}
use Rattle.roster_model.specs.Busy.{is_busy}
use Rattle.roster_model.specs.Code.{NotGiven, NoRoom}
use Rattle.roster_model.specs.Faults.{code_of_kind}
use Rattle.roster_model.specs.records.Duty as duty
use Rattle.roster_model.specs.records.Sector as sector
use Rattle.roster_model.specs.records.Leave as leave
use Rattle.roster_model.specs.records.Crew.{persons_in, person_place}
use Rattle.roster_model.specs.records.Pairing.{pairing_place}
use Rattle.roster_model.specs.records.Duty.{Duty, Holder, OfPairing, OfPerson, duty_of, duties_in, duty_place, holder_in, holder_name_in, letter_in, conditions_held, is_pairing_letter}
use Rattle.roster_model.specs.records.Sector.{conditions_within, duty_name_in, flown, sector_of, sectors_in}
use Rattle.roster_model.specs.records.Leave.{leave_of, leaves_in, crew_in}
use Rattle.roster_problem.specs.Sound.{IsHolder}
use Rattle.roster_book.specs.Flown.{sector_count, with_sector_at}
use Rattle.roster_book.proofs.SectorTable.{All-with_sector_at, flown_count, length-with_sector_at, sector_count_bare, sector_count_more}
use Rattle.roster_book.proofs.Conditions.{IsMet, below, is_met, place-below}
use Rattle.roster_book.proofs.Soundness.{KeepsSound, has_room, one_more, sound-more}

-- a duty's holder is known, and there is room for one more
record IsHeld (before : List Record) (holder : Option Holder) : Type 0 where
  known : is_some holder ≡ true
  room : length (duties_in before) < MOST_DUTIES

held : (busy : ℕ → ℕ → ℕ → Bool) (before : List Record) (holder : Option Holder) (station : List ℕ)
    (report release : ℕ)
    → IsMet NotGiven (conditions_held busy before holder station report release)
    → IsMet NoRoom (conditions_held busy before holder station report release)
    → IsHeld before holder
held busy before None station report release given room = cc given
held busy before (Some (OfPairing p)) station report release given room =
    record { known = refl; room = below _ MOST_DUTIES room }
held busy before (Some (OfPerson k)) station report release given room =
    record { known = refl; room = below _ MOST_DUTIES room }

-- a holder that is known is there
holder_of_place : (pairings persons : ℕ) (of_pairing : Bool) (pairing person : Option ℕ)
    → (is_some pairing ≡ true → unwrap_or pairing 0 < pairings)
    → (is_some person ≡ true → unwrap_or person 0 < persons)
    → is_some (cond of_pairing (option_map OfPairing pairing) (option_map OfPerson person)) ≡ true
    → IsHolder pairings persons (unwrap_or (cond of_pairing (option_map OfPairing pairing) (option_map OfPerson person)) (OfPairing 0))
holder_of_place pairings persons true None person there here some = cc
holder_of_place pairings persons true (Some p) person there here some = there refl
holder_of_place pairings persons false pairing None there here some = cc
holder_of_place pairings persons false pairing (Some k) there here some = here refl

pub sound-duty : KeepsSound DutyRecord
unfolding code_of_kind duty_of
sound-duty count before fields contents k =
    let t = contents.tables in
    let s = k.sound.sound in
    let made = duty_of before fields in
    let busy = is_busy (tables_in before) in
    let met = is_met (duty.conditions busy before fields) k.met in
    let h = held busy before (holder_in before fields) _ _ _ (met NotGiven) (met NoRoom) in
    let n =
    has_room MOST_DUTIES t.duties made
    (rw (k.tables_are, flown_count (sectors_in before) (duties_in before)) h.room) in
    let holder : IsHolder (length t.pairings) (length t.persons) made.holder = rw k.tables_are (holder_of_place _ _ (is_pairing_letter (letter_in fields)) (pairing_place before (holder_name_in fields)) (person_place before (holder_name_in fields)) (place-below _ _ _) (place-below _ _ _) h.known) in
    let holders =
    All-push
    (λ d. IsHolder (length t.pairings) (length t.persons) d.holder) t.duties made s.holders holder in
    sound-more k.sound (assumption (n.few, holders, s))
    (sector_count_bare t.duties made refl) k.sound.assigned (omega arith)

-- a leave's person is known, and there is room for one more
record IsTakenFor (before : List Record) (place : Option ℕ) : Type 0 where
  known : is_some place ≡ true
  room : length (leaves_in before) < MOST_LEAVES

taken-for : (is_busy : ℕ → ℕ → ℕ → Bool) (before : List Record) (place : Option ℕ) (from to : ℕ)
    → IsMet NotGiven (leave.conditions_held is_busy before place from to)
    → IsMet NoRoom (leave.conditions_held is_busy before place from to)
    → IsTakenFor before place
taken-for is_busy before None from to given room = cc given
taken-for is_busy before (Some k) from to given room =
    record { known = refl; room = below _ MOST_LEAVES room }

pub sound-leave : KeepsSound LeaveRecord
unfolding code_of_kind leave_of
sound-leave count before fields contents k =
    let t = contents.tables in
    let s = k.sound.sound in
    let made = leave_of before fields in
    let place = person_place before (crew_in fields) in
    let met = is_met (leave.conditions (is_busy (tables_in before)) before fields) k.met in
    let h = taken-for (is_busy (tables_in before)) before place _ _ (met NotGiven) (met NoRoom) in
    let n = has_room MOST_LEAVES t.leaves made (rw k.tables_are h.room) in
    let there : made.person < length t.persons =
    rw k.tables_are (place-below _ _ (persons_in before) h.known) in
    let absences = All-push (λ leave. leave.person < length t.persons) t.leaves made s.absences there in
    sound-more k.sound (assumption (n.few, absences, s)) refl k.sound.assigned (omega arith)

-- a sector's duty is known, and there is room for one more
record IsPlaced (before : List Record) (place : Option ℕ) (duties : List Duty) : Type 0 where
  at : ℕ
  place_is : place ≡ Some at
  within : at < length duties
  room : length (sectors_in before) < MOST_SECTORS

placed : (before : List Record) (place : Option ℕ) (duties : List Duty) (off on : ℕ)
    → IsMet NotGiven (conditions_within before (option_and_then (slice_get duties) place) off on)
    → IsMet NoRoom (conditions_within before (option_and_then (slice_get duties) place) off on)
    → IsPlaced before place duties
placed before None duties off on given room = cc given
placed before (Some p) duties off on given room =
    elim (slice_get_cases duties p).1 [
      | inl (duty, within, there, same) ↦
          record { at = p; place_is = refl; within = within; room = below _ MOST_SECTORS (rw there at room) }
      | inr (past, none) ↦ cc (rw none at given)
    ]

pub sound-sector : KeepsSound SectorRecord
unfolding code_of_kind sector_of
sound-sector count before fields contents k =
    let t = contents.tables in
    let s = k.sound.sound in
    let given = sector_of before fields in
    let met = is_met (sector.conditions before fields) k.met in
    let p =
    placed before (duty_place before (duty_name_in fields))
    (flown (sectors_in before) (duties_in before)) _ _ (met NotGiven) (met NoRoom) in
    let duties : t.duties ≡ flown (sectors_in before) (duties_in before) =
    ap (λ (all : Problem). all.duties) k.tables_are in
    let within : p.at < length t.duties = rw duties p.within in
    let more : sector_count (with_sector_at t.duties given.duty given.sector) ≡ sector_count t.duties + 1 =
    rw p.place_is (sector_count_more t.duties p.at given.sector within) in
    let longer = one_more (sectors_in before) given in
    let same = length-with_sector_at t.duties given.duty given.sector in
    let few : length (with_sector_at t.duties given.duty given.sector) ≤ MOST_DUTIES =
    omega (arith, s.duties) in
    let holders =
    All-with_sector_at
    (IsHolder (length t.pairings) (length t.persons)) t.duties given.duty given.sector s.holders in
    record {
      sound = assumption (few, holders, s);
      room = omega (arith, p.room);
      assigned = k.sound.assigned;
      few_steps = k.sound.few_steps;
      sectors_are = more ∙ omega (arith, k.sound.sectors_are);
      count_is = omega (arith, k.sound.count_is);
    }
