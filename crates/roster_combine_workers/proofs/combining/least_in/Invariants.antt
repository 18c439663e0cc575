use Rattle.std.specs.Arc.{arc_value}
use Rattle.roster_combine_workers.specs.Parts.{IsLeastOf}
use Rattle.roster_combine_workers.proofs.combining.least_in.Given as goal

-- the least of the first parts
abbrev pub invariant-loop-k : goal.invariant-loop-k
invariant-loop-k l = IsLeastOf l.list l.k (arc_value l.fn.known) (arc_value l.best)
