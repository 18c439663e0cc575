use Rattle.std.proofs.Common.{◌≡◌, ◌-◌, ◌<◌, Some, length}
use Rattle.roster_lines_table.specs.Entries.{sets_of}
use Rattle.roster_lines_table.specs.Person.{lines_at}
use Rattle.roster_model.specs.Settled.{Anywhere, Settles}
use Rattle.roster_test_reference.proofs.WalkLemmas.{Tried}
use Rattle.roster_test_reference.proofs.walk.+walk.Given as goal

abbrev pub decreases-walk : goal.decreases-walk
decreases-walk l = length l.problem.now.persons - l.k

-- the lines so far are tried
abbrev pub invariant-loop-i : goal.invariant-loop-i
invariant-loop-i l = record {
  person : l.k < length l.problem.persons;
  same : l.places ≡ l.initial.places;
  settled : Settles l.problem (Tried (sets_of (lines_at l.table l.k)) l.i l.k l.initial.places) Anywhere
      (Some l.initial.best) l.best;
}
