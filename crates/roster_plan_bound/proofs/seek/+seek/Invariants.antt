use Rattle.std.proofs.Common.{◌≡◌, ◌-◌, ◌≤◌, ◌≤ℤ◌, w64, FitsSigned}
use Rattle.roster_model.specs.declared.limits.TheConstants.{MOST_PAIRINGS}
use Rattle.roster_plan_bound.specs.Seeks.{IsLeastBelow}
use Rattle.roster_plan_bound.proofs.seek.+seek.Given as goal

abbrev pub decreases-seek : goal.decreases-seek
decreases-seek l = l.spot.now.room

-- no path that goes on with an earlier pairing brings less
abbrev pub invariant-loop-q : goal.invariant-loop-q
invariant-loop-q l = record {
  few : l.from ≤ MOST_PAIRINGS;
  judge : l.judge ≡ l.prospect.problem;
  lower : l.least ≤ℤ l.fn.least;
  word : FitsSigned w64 l.fn.least → FitsSigned w64 l.least;
  below : IsLeastBelow l.prospect l.spot l.from l.least;
}

abbrev pub decreases-loop-q : goal.decreases-loop-q
decreases-loop-q l = MOST_PAIRINGS - l.from
