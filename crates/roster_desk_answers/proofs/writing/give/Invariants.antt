use Rattle.std.proofs.Common.{◌≡◌, ◌≤◌, ◌-◌, length, take}
use Rattle.std.specs.Io.KnownBytes.{Appends}
use Rattle.roster_watched.specs.Watch.{has_failed, inner_of}
use Rattle.roster_desk_answers.proofs.writing.give.Given as goal

-- what was given so far, by a writer that goes on as it was
abbrev pub invariant-loop-taken : goal.invariant-loop-taken
invariant-loop-taken g l = record {
  within : l.taken ≤ length l.text;
  goes : has_failed l.writer ≡ has_failed l.fn.writer;
  so_far : Appends (g.W.Write.contents (inner_of l.fn.writer)) (g.W.Write.contents (inner_of l.writer))
      (take l.taken l.text);
}

abbrev pub decreases-loop-taken : goal.decreases-loop-taken
decreases-loop-taken g l = length l.text - l.taken
