use Rattle.std.proofs.Common.{ℕ, ◌<◌}
use Rattle.roster_model.specs.Places.{set_of}
use Rattle.roster_model.specs.Rules.{IsLegal}
use Rattle.roster_incumbent.proofs.checked.is_legal_roster.Given as goal

-- the sets of the persons so far are legal
abbrev pub invariant-loop-k : goal.invariant-loop-k
invariant-loop-k l = (j : ℕ) → j < l.k → IsLegal l.problem j (set_of j l.places)
