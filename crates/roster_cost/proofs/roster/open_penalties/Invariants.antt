use Rattle.std.proofs.Common.{◌≡◌, ◌+◌, ◌*◌, ◌≤◌, drop}
use Rattle.roster_model.specs.Costs.{open_penalties}
use Rattle.roster_model.specs.declared.limits.TheConstants.{MOST_PENALTY}
use Rattle.roster_cost.proofs.roster.open_penalties.Given as goal

abbrev pub invariant-loop-p : goal.invariant-loop-p
invariant-loop-p l = record {
  so_far : l.penalties + open_penalties l.nobody (drop l.p l.pairings) (drop l.p l.places)
      ≡ open_penalties l.nobody l.pairings l.places;
  bound : l.penalties ≤ l.p * MOST_PENALTY;
}
