use Rattle.std.proofs.Common.{◌≡◌, ◌+◌, ◌-◌}
use Rattle.std.specs.List.{sum_by}
use Rattle.roster_model.specs.declared.limits.TheConstants.{MOST_PAIRINGS}
use Rattle.roster_values.specs.Set.{places_from}
use Rattle.roster_cost.specs.Amounts.{minutes_of_pairing}
use Rattle.roster_cost.proofs.flight.set_flight.Given as goal

-- the minutes so far, and those of the pairings that are left
abbrev pub invariant-loop-p : goal.invariant-loop-p
invariant-loop-p l =
    l.minutes + sum_by (minutes_of_pairing l.problem l.k) (places_from l.from l.set)
    ≡ l.initial.minutes + sum_by (minutes_of_pairing l.problem l.k) (places_from 0 l.set)

abbrev pub decreases-loop-p : goal.decreases-loop-p
decreases-loop-p l = MOST_PAIRINGS - l.from
