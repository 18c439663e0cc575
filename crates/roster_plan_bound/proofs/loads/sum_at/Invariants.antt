use Rattle.std.proofs.Common.{◌-◌, ◌≤◌}
use Rattle.roster_model.specs.declared.limits.TheConstants.{MOST_PAIRINGS}
use Rattle.roster_plan_bound.proofs.loads.sum_at.Given as goal

-- no pairing is past the last
abbrev pub invariant-loop-p : goal.invariant-loop-p
invariant-loop-p l = record { few : l.from ≤ MOST_PAIRINGS }

abbrev pub decreases-loop-p : goal.decreases-loop-p
decreases-loop-p l = MOST_PAIRINGS - l.from
