use Rattle.std.specs.List.{AllZip}
use Rattle.roster_desk_fault.specs.Firsts.{IsValue}
use Rattle.roster_desk_fault.proofs.judging.values_of.Given as goal

abbrev pub invariant-loop-told : goal.invariant-loop-told
invariant-loop-told l = AllZip IsValue l.yielded l.faults.items
