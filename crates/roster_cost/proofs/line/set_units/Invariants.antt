use Rattle.std.proofs.Common.{◌≡◌, ◌-◌, ◌*◌, ◌≤◌, ◌+ℤ◌}
use Rattle.roster_model.specs.Costs.{total}
use Rattle.roster_model.specs.Problem.{units_of}
use Rattle.roster_model.specs.declared.limits.TheConstants.{MOST_PAIRINGS, MOST_UNITS}
use Rattle.roster_values.specs.Set.{places_from}
use Rattle.roster_cost.specs.Amounts.{IsWithin}
use Rattle.roster_cost.proofs.line.set_units.Given as goal

-- the units so far, and those of the pairings that are left
abbrev pub invariant-loop-p : goal.invariant-loop-p
invariant-loop-p l = record {
  so_far : l.units +ℤ total (units_of l.problem l.k) (places_from l.from l.set)
      ≡ total (units_of l.problem l.k) (places_from 0 l.set);
  bound : IsWithin (l.from * MOST_UNITS) l.units;
  within : l.from ≤ MOST_PAIRINGS;
}

abbrev pub decreases-loop-p : goal.decreases-loop-p
decreases-loop-p l = MOST_PAIRINGS - l.from
