use Rattle.std.proofs.Common.{take}
use Rattle.roster_model.specs.Problem.{leaves_of}
use Rattle.roster_model.specs.Rules.Leave.{KeepsLeave}
use Rattle.roster_legal.proofs.rules.leave.keeps_leave.Given as goal

-- the duties so far share no minute with a leave
abbrev pub invariant-loop-i : goal.invariant-loop-i
invariant-loop-i l = KeepsLeave (leaves_of l.problem l.k) (take l.i l.list)
