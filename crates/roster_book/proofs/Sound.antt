-- The contents of records without a fault are sound: each kind of record keeps them so.
pub mod Tables
pub mod Duties
pub mod Costs
use Rattle.std.proofs.Common.{◌≡◌, ℕ, ◌+◌, ◌<◌, ◌≤◌, Bool, true, false, cond, not, ◌&&◌, List, [], ◌∷◌, ◌++◌, length, Option, Some, None, refl, sym, ◌∙◌, subst, append-nil, arith}
use Rattle.std.specs.List.{list_any}
use Rattle.std.proofs.Props.{props}
use Rattle.std.proofs.Math.Logic.{∥∥₁_elim}
use Rattle.std.proofs.Math.Seq.{append_snoc}
use Rattle.std.proofs.lemmas.List.Folds.{list_any-append}
use Rattle.std.proofs.lemmas.List.Sorted.{All-permutation, length_permutation}
use Rattle.roster_model.specs.declared.limits.TheConstants.{MOST_DUTIES, MOST_RECORDS}
use Rattle.roster_model.specs.Record.{Record, Command, Kind, PeriodRecord, WeightRecord, BaseRecord, CrewRecord, PairingRecord, DutyRecord, SectorRecord, LeaveRecord, CostRecord, AssignRecord, StepRecord, is_of}
use Rattle.roster_model.specs.Code.{Code, GivenTwice, NoPeriod}
use Rattle.roster_model.specs.Problem.{Problem, tables_in, in_order}
use Rattle.roster_model.specs.Faults.{IsFaultlessSoFar, IsFaultlessAfter, code_of, code_of_kind, kind_in}
use Rattle.roster_model.specs.records.Period as period
use Rattle.roster_model.specs.records.Duty.{Holder, OfPairing, OfPerson, duties_in}
use Rattle.roster_model.specs.records.Sector.{flown, sector_of, sectors_in}
use Rattle.roster_model.specs.records.Assign.{assign_of, assigns_in}
use Rattle.roster_model.specs.records.Step.{step_of, steps_in}
use Rattle.roster_problem.specs.Sound.{IsSound, IsHolder}
use Rattle.roster_problem.proofs.Ordering.{IsPermutation-in_order}
use Rattle.roster_book.specs.Draft.{Contents, HasRecords, IsDraftOf}
use Rattle.roster_book.specs.Flown.{sector_count}
use Rattle.roster_book.proofs.Drafts.{kind_is, code_of-later, code_of-unknown}
use Rattle.roster_book.proofs.Conditions.{is_met}
use Rattle.roster_book.proofs.Soundness.{AreAssigned, AreSound, IsTaken, few_assigned, one_more, sound-none, weight_once}
use Rattle.roster_book.proofs.Sound.Tables.{sound-base, sound-person, sound-pairing}
use Rattle.roster_book.proofs.Sound.Duties.{sound-duty, sound-leave, sound-sector}
use Rattle.roster_book.proofs.Sound.Costs.{sound-weight, sound-cost, sound-assign, sound-step}
use Rattle.roster_book.proofs.Tables.{grown, is_same, no_assign, no_sector, no_step, entries_of-append, tables_in-first, tables_in-append, contents_with}

-- ---- the records of a draft

-- what the records make
abbrev contents_in : List Record → Contents
contents_in records =
    record { tables = tables_in records; assigns = assigns_in records; steps = steps_in records }

step_kind : (kind : Kind) (before : List Record) (fields : Record)
    → list_any (is_of PeriodRecord) before ≡ true
    → IsTaken (length before) kind before fields (contents_in before)
    → AreSound (length before + 1) (length (grown (is_same kind SectorRecord) (sectors_in before) (sector_of before fields))) (contents_with kind before fields (contents_in before))
unfolding code_of_kind
step_kind PeriodRecord before fields begun k =
    absurd (cc (begun, is_met (period.conditions before fields) k.met GivenTwice))
step_kind WeightRecord before fields begun k = sound-weight _ before fields _ k
step_kind BaseRecord before fields begun k = sound-base _ before fields _ k
step_kind CrewRecord before fields begun k = sound-person _ before fields _ k
step_kind PairingRecord before fields begun k = sound-pairing _ before fields _ k
step_kind DutyRecord before fields begun k = sound-duty _ before fields _ k
step_kind SectorRecord before fields begun k = sound-sector _ before fields _ k
step_kind LeaveRecord before fields begun k = sound-leave _ before fields _ k
step_kind CostRecord before fields begun k = sound-cost _ before fields _ k
step_kind AssignRecord before fields begun k = sound-assign _ before fields _ k
step_kind StepRecord before fields begun k = sound-step _ before fields _ k

abbrev AreSoundSoFar : List Record → Type 0
AreSoundSoFar records = AreSound (length records) (length (sectors_in records)) (contents_in records)

step : (command : Command) (before : List Record) (fields : Record) → 0 < length before
    → list_any (is_of PeriodRecord) before ≡ true
    → AreSoundSoFar before → code_of command before fields ≡ None → AreSoundSoFar (before ++ fields ∷ [])
step command before fields some begun s none =
    let P : Option Kind → Type 0 = λ o. kind_in command fields ≡ o → AreSoundSoFar (before ++ fields ∷ []) in
    elim (kind_in command fields) as P [
      | None ↦ λ k. cc (code_of-unknown command before fields some k, none)
      | Some kind ↦ λ k.
          let taken : IsTaken (length before) kind before fields (contents_in before) = record { sound = s; tables_are = refl; assigns_are = refl; steps_are = refl; met = sym (code_of-later command kind before fields some k) ∙ none } in
          let is = kind_is command kind fields k in
          rw (one_more before fields, tables_in-append kind before fields some is, entries_of-append kind SectorRecord sector_of before fields is, entries_of-append kind AssignRecord assign_of before fields is, entries_of-append kind StepRecord step_of before fields is) (step_kind kind before fields begun taken)
    ] refl

is_period : (b : Bool) (code : Option Code) → cond (true && not b) (Some NoPeriod) code ≡ None → b ≡ true
is_period true code h = refl
is_period false code h = cc

-- the first record is a period
pub first_is_period : (command : Command) (fields : Record) → code_of command [] fields ≡ None
    → is_of PeriodRecord fields ≡ true
unfolding code_of
first_is_period command fields h = is_period (is_of PeriodRecord fields) _ h

sound-first : (fields : Record) → is_of PeriodRecord fields ≡ true → AreSoundSoFar (fields ∷ [])
sound-first fields h =
    rw (tables_in-first fields h, no_sector fields h, no_assign fields h, no_step fields h) sound-none

sound_after : (command : Command) (before records : List Record) → 0 < length before
    → list_any (is_of PeriodRecord) before ≡ true
    → AreSoundSoFar before → IsFaultlessAfter command before records → AreSoundSoFar (before ++ records)
sound_after command before [] some begun s h = rw append-nil s
sound_after command before (fields ∷ records) some begun s h =
    let longer = one_more before fields in
    let still : list_any (is_of PeriodRecord) (before ++ fields ∷ []) ≡ true =
    rw (list_any-append (is_of PeriodRecord) before (fields ∷ []), begun) refl in
    subst AreSoundSoFar (append_snoc before fields records) (sound_after command (before ++ fields ∷ []) records (omega arith) still (step command before fields some begun s h.0) h.1)

sound-all : (command : Command) (records : List Record) → 0 < length records
    → IsFaultlessSoFar command records → AreSoundSoFar records
sound-all command [] some h = absurd (omega arith)
sound-all command (fields ∷ records) some h =
    let first = first_is_period command fields h.0 in
    let begun : list_any (is_of PeriodRecord) (fields ∷ []) ≡ true = rw first refl in
    sound_after command (fields ∷ []) records (omega arith) begun (sound-first fields first) h.1

-- the records begin with a period
pub has_period : (command : Command) (records : List Record) → 0 < length records
    → IsFaultlessSoFar command records → list_any (is_of PeriodRecord) records ≡ true
has_period command [] some h = absurd (omega arith)
has_period command (fields ∷ records) some h = rw (first_is_period command fields h.0) refl

-- there are no more records than the limits of their kinds allow
pub few_records : (command : Command) (records : List Record) → 0 < length records
    → IsFaultlessSoFar command records → length records ≤ MOST_RECORDS
few_records command records some h =
    let s = sound-all command records some h in
    let weight = weight_once (tables_in records).weight in
    let assigned = few_assigned _ _ (assigns_in records) s.assigned in
    omega (arith, s.count_is, s.sound.bases, s.sound.persons, s.sound.pairings, s.sound.duties, s.sound.leaves, s.sound.costs, s.few_steps, s.room)

pub IsSound-draft : (command : Command) (row : ℕ) (before : List Record) (contents : Contents)
    → IsDraftOf command row before contents → IsSound contents.tables
IsSound-draft command row before contents d =
    rw d.tables_are (sound-all command before d.begun d.faultless).sound

-- each pairing is assigned once, to somebody who is there or to nobody
pub assigned-draft : (command : Command) (row : ℕ) (before : List Record) (contents : Contents)
    → IsDraftOf command row before contents
    → AreAssigned (length contents.tables.pairings) (length contents.tables.persons) contents.assigns
assigned-draft command row before contents d =
    rw (d.tables_are, d.assigns_are) (sound-all command before d.begun d.faultless).assigned

-- the duties have as many sectors as were given
pub sectors_draft : (command : Command) (row : ℕ) (before : List Record) (contents : Contents)
    → IsDraftOf command row before contents
    → sector_count (flown (sectors_in before) (duties_in before)) ≡ length (sectors_in before)
sectors_draft command row before contents d = (sound-all command before d.begun d.faultless).sectors_are

IsHolder-prop : (pairings persons : ℕ) (holder : Holder) → IsProp (IsHolder pairings persons holder)
IsHolder-prop pairings persons (OfPairing p) = hlevel props
IsHolder-prop pairings persons (OfPerson k) = hlevel props

IsSound-prop : (tables : Problem) → IsProp (IsSound tables)
IsSound-prop tables = hlevel (props, IsHolder-prop)

pub IsSound-records : (contents : Contents) → HasRecords contents → IsSound contents.tables
unfolding HasRecords
IsSound-records contents h =
    ∥∥₁_elim h (IsSound-prop contents.tables)
    (λ (command, row, before, d). IsSound-draft command row before contents d)

-- the same with the duties in their order in time
pub IsSound-in_order : (tables : Problem) → IsSound tables
    → IsSound (record tables { duties = in_order tables.duties })
IsSound-in_order tables s =
    let order = IsPermutation-in_order tables.duties in
    let same = length_permutation tables.duties (in_order tables.duties) order in
    let few : length (in_order tables.duties) ≤ MOST_DUTIES = omega (arith, s.duties) in
    let holders =
    All-permutation
    (λ d. IsHolder (length tables.pairings) (length tables.persons) d.holder) tables.duties
    (in_order tables.duties) order s.holders in
    assumption (few, holders, s)
