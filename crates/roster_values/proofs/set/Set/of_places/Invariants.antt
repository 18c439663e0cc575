use Rattle.std.proofs.Common.{◌≡◌, take}
use Rattle.roster_model.specs.Places.{set_of}
use Rattle.roster_values.proofs.set.Set.of_places.Given as goal

-- the set of the places so far
abbrev pub invariant-loop-p : goal.invariant-loop-p
invariant-loop-p l = l.set ≡ set_of l.number (take l.p l.places)
