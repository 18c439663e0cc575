-- The code of a record, by its kind and the records before it, and the first fault of a book.
use Rattle.std.specs.Prelude.{◌≡◌, ℕ, Bool, not, ◌&&◌, ◌==◌, if◌then◌else◌, List, [], ◌∷◌, ◌++◌, length, Option, Some, None, option_map}
use Rattle.std.specs.List.{list_any, find, enumerate_from}
use Rattle.roster_model.specs.Record.{Record, Kind, PeriodRecord, WeightRecord, BaseRecord, CrewRecord, PairingRecord, DutyRecord, SectorRecord, LeaveRecord, CostRecord, AssignRecord, StepRecord, Command, kinds_of, is_of, next_row}
use Rattle.roster_model.specs.Code.{Code, NoPeriod, UnknownKind, NoDuty, number_of_code, first_unmet}
use Rattle.roster_model.specs.records.Period as period
use Rattle.roster_model.specs.records.Weight as weight
use Rattle.roster_model.specs.records.Base as base
use Rattle.roster_model.specs.records.Crew as crew
use Rattle.roster_model.specs.records.Pairing as pairing
use Rattle.roster_model.specs.records.Pairing.{Pairing}
use Rattle.roster_model.specs.records.Duty as duty
use Rattle.roster_model.specs.records.Sector as sector
use Rattle.roster_model.specs.records.Leave as leave
use Rattle.roster_model.specs.records.Cost as cost
use Rattle.roster_model.specs.records.Assign as assign
use Rattle.roster_model.specs.records.Step as step
use Rattle.roster_model.specs.Problem.{Problem, tables_in, problem_of}
use Rattle.roster_model.specs.Busy.{is_busy}

-- ---- the code of a record

-- what a record of the kind has to meet, by code
abbrev pub conditions_of : Kind → List Record → Record → List (Code × Bool)
conditions_of PeriodRecord before fields = period.conditions before fields
conditions_of WeightRecord before fields = weight.conditions before fields
conditions_of BaseRecord before fields = base.conditions before fields
conditions_of CrewRecord before fields = crew.conditions before fields
conditions_of PairingRecord before fields = pairing.conditions before fields
conditions_of DutyRecord before fields = duty.conditions (is_busy (tables_in before)) before fields
conditions_of SectorRecord before fields = sector.conditions before fields
conditions_of LeaveRecord before fields = leave.conditions (is_busy (tables_in before)) before fields
conditions_of CostRecord before fields = cost.conditions before fields
conditions_of AssignRecord before fields = assign.conditions before fields
conditions_of StepRecord before fields = step.conditions before fields

unfoldable pub code_of_kind : Kind → List Record → Record → Option Code
code_of_kind kind before fields = first_unmet (conditions_of kind before fields)

abbrev pub code_in : Option Kind → List Record → Record → Option Code
code_in None before fields = Some UnknownKind
code_in (Some kind) before fields = code_of_kind kind before fields

-- the kind of a record in a book for the command
abbrev pub kind_in : Command → Record → Option Kind
kind_in command fields = find (λ kind. is_of kind fields) (kinds_of command)

unfoldable pub code_of : Command → List Record → Record → Option Code
code_of command before fields =
    if (length before == 0) && not (is_of PeriodRecord fields) then Some NoPeriod
    else code_in (kind_in command fields) before fields

-- ---- the first fault

-- the row of a record, and the number of what is wrong with it
pub record Fault : Type 0 where
  pub row : ℕ
  pub code : ℕ

abbrev pub fault_at : ℕ → Code → Fault
fault_at row code = record { row = row; code = number_of_code code }

-- the first pairing without a duty, with its place
abbrev pub pairing_without_duty : Problem → Option (ℕ × Pairing)
pairing_without_duty tables =
    find
    (λ (entry : ℕ × Pairing). not (list_any (λ d. duty.is_held_by_pairing entry.0 d.holder) tables.duties))
    (enumerate_from 0 tables.pairings)

-- after the last record, a pairing without a duty is told, with its record
unfoldable pub missing_duty : List Record → Option Fault
missing_duty records =
    option_map (λ (entry : ℕ × Pairing). fault_at entry.1.row NoDuty)
    (pairing_without_duty (tables_in records))

abbrev pub fault_or : Option Code → ℕ → Option Fault → Option Fault
fault_or (Some code) row later = Some (fault_at row code)
fault_or None row later = later

-- the first fault of the records that come after those before
unfoldable pub first_fault_after : Command → List Record → List Record → Option Fault
first_fault_after command before [] = missing_duty before
first_fault_after command before (fields ∷ rest) =
    fault_or (code_of command before fields) (next_row before)
    (first_fault_after command (before ++ fields ∷ []) rest)

-- the first fault of a book; if there is no record at all, the first is no period
unfoldable pub first_fault : Command → List Record → Option Fault
first_fault command [] = Some (fault_at 1 NoPeriod)
first_fault command (fields ∷ rest) = first_fault_after command [] (fields ∷ rest)

-- none of the records that come after those before has a fault of its own
abbrev pub IsFaultlessAfter : Command → List Record → List Record → Type 0
IsFaultlessAfter command before [] = Unit {0}
IsFaultlessAfter command before (fields ∷ rest) =
    (code_of command before fields ≡ None) × IsFaultlessAfter command (before ++ fields ∷ []) rest

abbrev pub IsFaultlessSoFar : Command → List Record → Type 0
IsFaultlessSoFar command records = IsFaultlessAfter command [] records

-- the problem of the records of some book without a fault
unfoldable pub IsFaultless : Problem → Type 0
IsFaultless problem =
    ∥ ((command : Command) × (records : List Record) × (first_fault command records ≡ None) × (problem ≡ problem_of records)) ∥₁
