-- How the definitions see a kind of records, and how many records of it there may be.
use Rattle.std.specs.Prelude.{ℕ, None, Option, Some}
use Rattle.roster_model.specs.Record as model
use Rattle.roster_model.specs.declared.limits.TheConstants.{MOST_BASES, MOST_COSTS, MOST_DUTIES, MOST_LEAVES, MOST_PAIRINGS, MOST_PERSONS, MOST_SECTORS, MOST_STEPS}
use Rattle.roster_desk_fault.specs.declared.kinds.Kind.{Kind}
use Rattle.roster_desk_fault.specs.declared.kinds.Kind.TheVariants as kinds

abbrev pub kind_of : Kind → model.Kind
kind_of kinds.Period = model.PeriodRecord
kind_of kinds.Weight = model.WeightRecord
kind_of kinds.Base = model.BaseRecord
kind_of kinds.Crew = model.CrewRecord
kind_of kinds.Pairing = model.PairingRecord
kind_of kinds.Duty = model.DutyRecord
kind_of kinds.Sector = model.SectorRecord
kind_of kinds.Leave = model.LeaveRecord
kind_of kinds.Cost = model.CostRecord
kind_of kinds.Assign = model.AssignRecord

-- the kind's own limit, if it has one
abbrev pub most_of : model.Kind → Option ℕ
most_of model.PeriodRecord = Some 1
most_of model.WeightRecord = Some 1
most_of model.BaseRecord = Some MOST_BASES
most_of model.CrewRecord = Some MOST_PERSONS
most_of model.PairingRecord = Some MOST_PAIRINGS
most_of model.DutyRecord = Some MOST_DUTIES
most_of model.SectorRecord = Some MOST_SECTORS
most_of model.LeaveRecord = Some MOST_LEAVES
most_of model.CostRecord = Some MOST_COSTS
most_of model.AssignRecord = None
most_of model.StepRecord = Some MOST_STEPS
