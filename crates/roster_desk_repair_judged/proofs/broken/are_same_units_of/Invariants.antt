use Rattle.std.proofs.Common.{◌≡◌, ℕ, ◌<◌}
use Rattle.roster_model.specs.Problem.{units_of}
use Rattle.roster_desk_repair_judged.proofs.broken.are_same_units_of.Given as goal

-- the pairings before this one cost the same
abbrev pub invariant-loop-p : goal.invariant-loop-p
invariant-loop-p l = (p : ℕ) → p < l.p → units_of l.broken l.k p ≡ units_of l.book l.k p
