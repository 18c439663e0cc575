use Rattle.std.proofs.Common.{◌≡◌, take}
use Rattle.roster_search_lp.proofs.master.copy_all.Given as goal

-- those so far are copied
abbrev pub invariant-loop-sets : goal.invariant-loop-sets
invariant-loop-sets l = l.copies.items ≡ take l.sets-index l.persons
