use Rattle.roster_desk_fault.specs.Firsts.{AreKept}
use Rattle.roster_desk_fault.proofs.rows.read_rows.Given as goal

abbrev pub invariant-loop-row : goal.invariant-loop-row
invariant-loop-row l = AreKept l.records.items
