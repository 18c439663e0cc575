use Rattle.std.proofs.Common.{◌≡◌, ◌+◌, List, map, vec_len}
use Rattle.std.specs.Prelude.{All, IfOk}
use Rattle.roster_model.specs.Problem.{Problem}
use Rattle.roster_lines_table.specs.Entries.{Entry}
use Rattle.roster_combine_workers.specs.Parts.{AreSettled}
use Rattle.roster_combine_workers.proofs.crew.handed_in.Given as goal

-- each part gave its share and its list, or is left
abbrev pub invariant-loop-part : goal.invariant-loop-part
invariant-loop-part g l = record {
  shares : vec_len l.shares + vec_len l.parts ≡ vec_len l.fn.parts;
  settled : (problem : Problem) (table : List (List Entry))
      → All (λ part. IfOk part (λ handed. AreSettled problem table handed.1.items)) l.fn.parts.items
      → All (λ part. IfOk part (λ handed. AreSettled problem table handed.1.items)) l.parts.items × All (AreSettled problem table) (map (λ list. list.items) l.lists.items);
}

abbrev pub decreases-loop-part : goal.decreases-loop-part
decreases-loop-part g l = vec_len l.parts
