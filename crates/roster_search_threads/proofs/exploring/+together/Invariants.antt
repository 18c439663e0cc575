use Rattle.std.proofs.Common.{◌+◌, ◌*◌}
use Rattle.roster_search_threads.proofs.exploring.+together.Given as goal

-- each half may be halved once less
abbrev pub decreases-explore_halves : goal.decreases-explore_halves
decreases-explore_halves g l = 4 * l.times

abbrev pub decreases-explore_together : goal.decreases-explore_together
decreases-explore_together g l = 4 * l.times + 1

abbrev pub decreases-explore_half : goal.decreases-explore_half
decreases-explore_half g l = 4 * l.times + 2

abbrev pub decreases-explore_halves-here : goal.decreases-explore_halves-here
decreases-explore_halves-here g l = 4 * l.fewer + 3

abbrev pub decreases-explore_halves-there : goal.decreases-explore_halves-there
decreases-explore_halves-there g l = 4 * l.fewer + 3
