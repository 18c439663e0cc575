use Rattle.std.proofs.Common.{length}
use Rattle.roster_desk_same.proofs.sectors.+are_same_sectors.Given as goal

abbrev pub decreases-are_same_sectors : goal.decreases-are_same_sectors
decreases-are_same_sectors l = length l.before.now
