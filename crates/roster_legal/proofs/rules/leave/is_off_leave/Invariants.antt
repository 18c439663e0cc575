use Rattle.std.proofs.Common.{◌≡◌, take}
use Rattle.std.specs.Prelude.{All}
use Rattle.roster_model.specs.Calendar.{common}
use Rattle.roster_legal.proofs.OffLeave.{HoldsAt}
use Rattle.roster_legal.proofs.rules.leave.is_off_leave.Given as goal

-- the leaves so far share no minute with the duty
abbrev pub invariant-loop-place : goal.invariant-loop-place
invariant-loop-place l =
    All (HoldsAt (λ leave. common l.duty.report l.duty.release leave.from leave.to ≡ 0) l.problem.leaves)
    (take l.place-index l.place-items)
