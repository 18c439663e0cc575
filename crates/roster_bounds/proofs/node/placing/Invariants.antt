use Rattle.std.proofs.Common.{◌≡◌, drop}
use Rattle.roster_bounds.specs.Chosen.{placing_person}
use Rattle.roster_bounds.proofs.node.placing.Given as goal

-- no line so far has the pairing
abbrev pub invariant-loop-k : goal.invariant-loop-k
invariant-loop-k l = placing_person l.table l.k (drop l.k l.lines) l.p ≡ placing_person l.table 0 l.lines l.p
