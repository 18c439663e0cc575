use Rattle.std.proofs.Common.{take}
use Rattle.roster_model.specs.Rules.DaysOff.{IsFreeFrom}
use Rattle.roster_legal_reasons.proofs.rules.days_off.is_free.Given as goal

-- the duties so far share no minute with the time
abbrev pub invariant-loop-i : goal.invariant-loop-i
invariant-loop-i l = IsFreeFrom l.from l.to (take l.i l.list)
