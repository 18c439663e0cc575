use Rattle.std.specs.Prelude.{All, IfOk, vec_len}
use Rattle.roster_search_least.specs.Parts.{AreBaseParts}
use Rattle.roster_search_threads.proofs.shared.gathered.Given as goal

-- what is left is found, and so is what was taken out
abbrev pub invariant-loop-parts : goal.invariant-loop-parts
invariant-loop-parts l = record {
  lists : All
      (λ parts. IfOk parts (λ parts. AreBaseParts l.lines.problem.now l.lines.table.now l.lines.ranges.now parts.items)) l.lists.items;
  all : AreBaseParts l.lines.problem.now l.lines.table.now l.lines.ranges.now l.all.items;
}

abbrev pub decreases-loop-parts : goal.decreases-loop-parts
decreases-loop-parts l = vec_len l.lists
