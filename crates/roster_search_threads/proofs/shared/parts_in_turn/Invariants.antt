use Rattle.roster_search_least.specs.Parts.{AreBaseParts}
use Rattle.roster_search_threads.proofs.shared.parts_in_turn.Given as goal

-- what is found so far is true
abbrev pub invariant-loop : goal.invariant-loop
invariant-loop g l = AreBaseParts l.lines.problem.now l.lines.table.now l.lines.ranges.now l.parts.items
