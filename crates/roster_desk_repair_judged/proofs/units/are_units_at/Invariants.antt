use Rattle.std.proofs.Common.{◌≡◌, ℕ, ◌<◌, pos, ◌+ℤ◌}
use Rattle.roster_model.specs.Problem.{units_of}
use Rattle.roster_desk_repair_terms.specs.Moves.{less_for}
use Rattle.roster_desk_repair_judged.proofs.units.are_units_at.Given as goal

-- the units of the persons before this one are so
abbrev pub invariant-loop-k : goal.invariant-loop-k
invariant-loop-k l = (k : ℕ) → k < l.k
    → units_of l.repaired k l.r +ℤ pos (less_for l.price l.number k) ≡ units_of l.book k l.p
