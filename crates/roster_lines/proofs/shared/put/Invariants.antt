use Rattle.std.specs.Prelude.{vec_len}
use Rattle.roster_lines.specs.Made.{AreMadeFor, AreMadeOf}
use Rattle.roster_lines.proofs.shared.put.Given as goal

-- what is left to put, and what is put
abbrev pub invariant-loop-k : goal.invariant-loop-k
invariant-loop-k l = record {
  list : AreMadeFor l.problem l.list.items;
  slots : AreMadeOf l.problem l.slots.items;
}

abbrev pub decreases-loop-k : goal.decreases-loop-k
decreases-loop-k l = vec_len l.list
