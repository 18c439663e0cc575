use Rattle.std.proofs.Common.{◌≡◌, ◌<◌, ◌++◌, length}
use Rattle.roster_lines_table.specs.Entries.{set_at}
use Rattle.roster_lines_table.specs.Tree.{entries_in}
use Rattle.roster_lines_table.proofs.lines.Lines.set.Given as goal

-- the line's set is that of an earlier one, and behind it the pairings so far
abbrev pub invariant-loop-at : goal.invariant-loop-at
invariant-loop-at l = record {
  inside : l.at < length l.self-inside.lines.items;
  set : set_at (entries_in l.self-inside.lines.items) l.i
      ≡ set_at (entries_in l.self-inside.lines.items) l.at ++ l.set;
}

abbrev pub decreases-loop-at : goal.decreases-loop-at
decreases-loop-at l = l.at
