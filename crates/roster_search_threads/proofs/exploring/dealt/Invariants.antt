use Rattle.std.specs.Prelude.{vec_len}
use Rattle.roster_search_threads.proofs.ExploredLemmas.{IsDealing}
use Rattle.roster_search_threads.proofs.exploring.dealt.Given as goal

-- what is dealt so far, and what isn't yet
abbrev pub invariant-loop-node : goal.invariant-loop-node
invariant-loop-node l = IsDealing l.problem l.fn.nodes.items l.mine.items l.theirs.items l.nodes.items

abbrev pub decreases-loop-node : goal.decreases-loop-node
decreases-loop-node l = vec_len l.nodes
