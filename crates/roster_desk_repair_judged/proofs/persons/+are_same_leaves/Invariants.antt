use Rattle.std.proofs.Common.{length}
use Rattle.roster_desk_repair_judged.proofs.persons.+are_same_leaves.Given as goal

abbrev pub decreases-are_same_leaves : goal.decreases-are_same_leaves
decreases-are_same_leaves l = length l.before.now
