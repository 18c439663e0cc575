use Rattle.std.proofs.Common.{◌≡◌, length, map, take}
use Rattle.roster_combine_workers.proofs.root.widths_of.Given as goal

-- the widths of the first persons
abbrev pub invariant-loop-k : goal.invariant-loop-k
invariant-loop-k l = l.widths.items ≡ take l.k (map length l.table)
