use Rattle.std.proofs.Common.{ℕ, ◌<◌}
use Rattle.roster_model.specs.Lines.{IsCrowded}
use Rattle.roster_desk_fault.proofs.crowded.first_crowded.Given as goal

abbrev pub invariant-loop-k : goal.invariant-loop-k
invariant-loop-k l = (j : ℕ) → j < l.k → ¬ IsCrowded l.problem j
