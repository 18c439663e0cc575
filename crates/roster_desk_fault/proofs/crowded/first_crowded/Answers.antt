use Rattle.std.proofs.Common.{length, ap, arith}
use Rattle.roster_desk_fault.proofs.crowded.first_crowded.Goals as goal

pub returns : goal.returns
returns c k below crowded =
    let persons = ap length c.persons-k-end.ensures.value in
    let last = c.loop-k.auto.k-end in
    c.loop-k.invariant k (omega (arith, below, c.loop-k-test.false)) crowded
