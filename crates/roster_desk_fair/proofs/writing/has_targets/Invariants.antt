use Rattle.std.proofs.Common.{◌≡◌, ◌<◌, ℕ, Some, slice_get}
use Rattle.roster_model.specs.Problem.{target_of}
use Rattle.roster_desk_fair.proofs.writing.has_targets.Given as goal

-- the first persons have them
abbrev pub invariant-loop-k : goal.invariant-loop-k
invariant-loop-k l = (j : ℕ) → j < l.k → slice_get l.fair j ≡ Some (target_of l.book j)
