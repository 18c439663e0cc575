use Rattle.std.specs.Prelude.{All, IfOk, vec_len}
use Rattle.roster_lines.specs.Made.{AreMadeFor, AreMadeOf}
use Rattle.roster_lines.proofs.shared.placed.Given as goal

-- what is left to place, and what is placed
abbrev pub invariant-loop-list : goal.invariant-loop-list
invariant-loop-list l = record {
  lists : All (λ list. IfOk list (λ all. AreMadeFor l.problem all.items)) l.lists.items;
  slots : AreMadeOf l.problem l.slots.items;
}

abbrev pub decreases-loop-list : goal.decreases-loop-list
decreases-loop-list l = vec_len l.lists
