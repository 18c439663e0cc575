use Rattle.roster_restrules.proofs.DutyDays.{AreDaysBelow}
use Rattle.roster_restrules.proofs.days_off.days_of.Given as goal

-- the days so far are judged
abbrev pub invariant-loop-i : goal.invariant-loop-i
invariant-loop-i l = AreDaysBelow l.days l.duty l.i l.word
