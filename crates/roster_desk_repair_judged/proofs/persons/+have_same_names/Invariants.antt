use Rattle.std.proofs.Common.{length}
use Rattle.roster_desk_repair_judged.proofs.persons.+have_same_names.Given as goal

abbrev pub decreases-have_same_names : goal.decreases-have_same_names
decreases-have_same_names l = length l.before.now
