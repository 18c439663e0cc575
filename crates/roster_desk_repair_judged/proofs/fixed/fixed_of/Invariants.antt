use Rattle.std.proofs.Common.{◌≡◌, take}
use Rattle.roster_desk_repair_terms.specs.Fixed.{fixed_from}
use Rattle.roster_desk_repair_judged.proofs.fixed.fixed_of.Given as goal

-- what is fixed of the first numbers
abbrev pub invariant-loop-p : goal.invariant-loop-p
invariant-loop-p l = l.fixed.items ≡ fixed_from l.problem.duties l.from 0 (take l.p l.published)
