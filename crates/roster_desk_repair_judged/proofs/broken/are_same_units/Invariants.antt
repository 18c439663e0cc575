use Rattle.std.proofs.Common.{◌≡◌, ℕ, ◌<◌, length}
use Rattle.roster_model.specs.Problem.{units_of}
use Rattle.roster_desk_repair_judged.proofs.broken.are_same_units.Given as goal

-- the pairings cost the persons before this one the same
abbrev pub invariant-loop-k : goal.invariant-loop-k
invariant-loop-k l = (k p : ℕ) → k < l.k → p < length l.broken.pairings → units_of l.broken k p ≡ units_of l.book k p
