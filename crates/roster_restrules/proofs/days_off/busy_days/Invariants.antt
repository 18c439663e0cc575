use Rattle.std.proofs.Common.{take}
use Rattle.roster_restrules.specs.Busy.{AreBusyDays}
use Rattle.roster_restrules.proofs.days_off.busy_days.Given as goal

-- the days of the duties so far
abbrev pub invariant-loop-i : goal.invariant-loop-i
invariant-loop-i l = AreBusyDays l.days (take l.i l.list) l.busy
