use Rattle.std.proofs.Common.{length, ◌-◌}
use Rattle.roster_desk_carry_judged.proofs.duties.+are_carried.Given as goal

abbrev pub decreases-are_carried : goal.decreases-are_carried
decreases-are_carried l = length l.list.now - l.i
