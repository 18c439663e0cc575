use Rattle.std.proofs.Common.{◌≡◌, ◌*◌, ◌+ℤ◌, drop}
use Rattle.roster_model.specs.Costs.{placed_units}
use Rattle.roster_model.specs.declared.limits.TheConstants.{MOST_UNITS}
use Rattle.roster_cost.specs.Amounts.{IsWithin}
use Rattle.roster_cost.proofs.roster.placed_units.Given as goal

abbrev pub invariant-loop-p : goal.invariant-loop-p
invariant-loop-p l = record {
  so_far : l.units +ℤ placed_units l.problem l.p (drop l.p l.places) ≡ placed_units l.problem 0 l.places;
  bound : IsWithin (l.p * MOST_UNITS) l.units;
}
