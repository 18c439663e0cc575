use Rattle.std.proofs.Common.{ℕ, ◌<◌}
use Rattle.roster_model.specs.Rules.{IsLegal}
use Rattle.roster_model.specs.Places.{set_of}
use Rattle.roster_test_reference.proofs.plain.is_legal_roster.Given as goal

abbrev pub invariant-loop-k : goal.invariant-loop-k
invariant-loop-k l = (k : ℕ) → k < l.k → IsLegal l.problem k (set_of k l.places)
