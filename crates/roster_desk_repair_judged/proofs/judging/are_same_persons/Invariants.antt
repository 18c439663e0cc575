use Rattle.std.proofs.Common.{ℕ, ◌<◌}
use Rattle.roster_desk_repair_terms.specs.Repaired.{IsSamePerson}
use Rattle.roster_desk_repair_judged.proofs.judging.are_same_persons.Given as goal

-- the persons before this one are the same
abbrev pub invariant-loop-k : goal.invariant-loop-k
invariant-loop-k l = (k : ℕ) → k < l.k → IsSamePerson l.book l.repaired k
