use Rattle.std.proofs.Common.{◌-◌}
use Rattle.roster_model.specs.declared.limits.TheConstants.{MOST_PAIRINGS}
use Rattle.roster_lines.specs.Between.{HasBefore}
use Rattle.roster_lines.proofs.wanted.has_before.Given as goal

-- the set has what is before the next place
abbrev pub invariant-loop-q : goal.invariant-loop-q
invariant-loop-q l = HasBefore l.set l.must l.from

abbrev pub decreases-loop-q : goal.decreases-loop-q
decreases-loop-q l = MOST_PAIRINGS - l.from
