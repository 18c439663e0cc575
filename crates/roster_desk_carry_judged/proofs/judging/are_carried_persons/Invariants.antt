use Rattle.std.proofs.Common.{ℕ, ◌<◌}
use Rattle.roster_desk_carry_judged.specs.Carried.{IsCarriedPerson}
use Rattle.roster_desk_carry_judged.proofs.judging.are_carried_persons.Given as goal

-- the persons before this one are the same, with what they carry
abbrev pub invariant-loop-k : goal.invariant-loop-k
invariant-loop-k l = (k : ℕ) → k < l.k → IsCarriedPerson l.book l.places l.before l.next k
