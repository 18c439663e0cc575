use Rattle.std.proofs.Common.{map}
use Rattle.std.specs.Arc.{arc_value}
use Rattle.roster_combine_workers.specs.Parts.{IsLeastOfAll}
use Rattle.roster_combine_workers.proofs.combining.least_of.Given as goal

-- the least of the first workers
abbrev pub invariant-loop-k : goal.invariant-loop-k
invariant-loop-k l =
    IsLeastOfAll (map (λ list. list.items) l.lists) l.k (arc_value l.fn.known) (arc_value l.best)
