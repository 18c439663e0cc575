use Rattle.std.proofs.Common.{length}
use Rattle.roster_desk_carry_judged.proofs.leave.+are_parts.Given as goal

abbrev pub decreases-are_parts : goal.decreases-are_parts
decreases-are_parts l = length l.positions.now
