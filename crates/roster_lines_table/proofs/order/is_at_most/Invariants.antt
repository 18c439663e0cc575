use Rattle.std.proofs.Common.{◌≡◌, ◌-◌}
use Rattle.roster_model.specs.declared.limits.TheConstants.{MOST_PAIRINGS}
use Rattle.roster_model.specs.Places.{places_le}
use Rattle.roster_values.specs.Set.{places_from}
use Rattle.roster_lines_table.proofs.order.is_at_most.Given as goal

-- the places so far are the same
abbrev pub invariant-loop-p : goal.invariant-loop-p
invariant-loop-p l = places_le l.a l.b ≡ places_le (places_from l.from l.a) (places_from l.from l.b)

abbrev pub decreases-loop-p : goal.decreases-loop-p
decreases-loop-p l = MOST_PAIRINGS - l.from
