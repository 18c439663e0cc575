use Rattle.std.proofs.Common.{◌≡◌, take}
use Rattle.roster_search_regions.proofs.region.Region.copy.Given as goal

-- those so far are copied
abbrev pub invariant-loop-lines : goal.invariant-loop-lines
invariant-loop-lines l = l.persons.items ≡ take l.lines-index l.lines-items
