-- How the definitions see this crate's enums, and how a refusal is told.
use Rattle.std.specs.Prelude.{◌≡◌, ℕ, Bool, true, false, Option, Some, None}
use Rattle.roster_book.specs.declared.code.Code.{Code}
use Rattle.roster_book.specs.declared.code.Code.TheVariants as codes
use Rattle.roster_book.specs.declared.fault.BookFault.{BookFault}
use Rattle.roster_book.specs.declared.fault.BookFault.TheVariants as faults
use Rattle.roster_book.specs.declared.record.Kind.{Kind}
use Rattle.roster_book.specs.declared.record.Kind.TheVariants as kinds
use Rattle.roster_book.specs.declared.record.step.Move.{Move}
use Rattle.roster_book.specs.declared.record.step.Move.TheVariants as moves
use Rattle.roster_book.specs.declared.refusal.Refusal.{Refusal}
use Rattle.roster_book.specs.declared.refusal.Refusal.TheVariants as refusals
use Rattle.roster_model.specs.Code as model
use Rattle.roster_model.specs.Record as record_model
use Rattle.roster_model.specs.records.Step as replayed

abbrev pub code_of : Code → model.Code
code_of codes.NoPeriod = model.NoPeriod
code_of codes.UnknownKind = model.UnknownKind
code_of codes.FieldCount = model.FieldCount
code_of codes.FieldForm = model.FieldForm
code_of codes.OutOfLimits = model.OutOfLimits
code_of codes.GivenTwice = model.GivenTwice
code_of codes.NotGiven = model.NotGiven
code_of codes.OutOfSequence = model.OutOfSequence
code_of codes.OutOfWindow = model.OutOfWindow
code_of codes.ZoneRefused = model.ZoneRefused
code_of codes.NoRoom = model.NoRoom
code_of codes.WrongStart = model.WrongStart
code_of codes.Busy = model.Busy
code_of codes.NoDuty = model.NoDuty
code_of codes.TooManyLines = model.TooManyLines

abbrev pub kind_of : Kind → record_model.Kind
kind_of kinds.Period = record_model.PeriodRecord
kind_of kinds.Weight = record_model.WeightRecord
kind_of kinds.Base = record_model.BaseRecord
kind_of kinds.Crew = record_model.CrewRecord
kind_of kinds.Pairing = record_model.PairingRecord
kind_of kinds.Duty = record_model.DutyRecord
kind_of kinds.Sector = record_model.SectorRecord
kind_of kinds.Leave = record_model.LeaveRecord
kind_of kinds.Cost = record_model.CostRecord
kind_of kinds.Assign = record_model.AssignRecord
kind_of kinds.Step = record_model.StepRecord

-- a book for the command may have records of the kind
abbrev pub is_for : record_model.Kind → record_model.Command → Bool
is_for record_model.AssignRecord record_model.Check = true
is_for record_model.AssignRecord command = false
is_for record_model.StepRecord record_model.Replay = true
is_for record_model.StepRecord command = false
is_for kind command = true

abbrev pub move_of : Move → replayed.Move
move_of moves.Take = replayed.ToTake
move_of moves.Halve = replayed.ToHalve
move_of moves.Descend = replayed.ToDescend
move_of moves.Back = replayed.ToGiveBack
move_of moves.Search = replayed.ToSearch

-- A record whose code is this, or that has none, is refused: for that code, or for want of memory
-- if it has none.
abbrev pub Refuses : Refusal → Option model.Code → Type 0
Refuses (refusals.Fault code) told = told ≡ Some (code_of code)
Refuses refusals.Memory told = told ≡ None

-- the refusal of the record at this row is told as this fault
abbrev pub ToldAt : ℕ → Refusal → BookFault → Type 0
ToldAt row (refusals.Fault code) fault = fault ≡ faults.At row (model.number_of_code (code_of code))
ToldAt row refusals.Memory fault = fault ≡ faults.Memory
