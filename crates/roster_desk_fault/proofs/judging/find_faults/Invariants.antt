use Rattle.roster_desk_fault.specs.Firsts.{AreKept, HasBegun}
use Rattle.roster_desk_fault.proofs.judging.find_faults.Given as goal

abbrev pub invariant-loop-n : goal.invariant-loop-n
invariant-loop-n l = AreKept l.fn.rows.items → HasBegun l.fn.first l.next l.fn.rows.items l.rows.items l.told.items
