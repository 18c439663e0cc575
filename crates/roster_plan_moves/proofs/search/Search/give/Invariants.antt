use Rattle.std.proofs.Common.{◌-◌}
use Rattle.roster_model.specs.declared.limits.TheConstants.{MOST_PAIRINGS}
use Rattle.roster_plan_moves.proofs.search.Search.give.Given as goal

abbrev pub decreases-loop-q : goal.decreases-loop-q
decreases-loop-q l = MOST_PAIRINGS - l.from
