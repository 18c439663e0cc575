use Rattle.std.proofs.Common.{arith}
use Rattle.roster_model.proofs.SumLemmas.{sum_by-range_next}
use Rattle.roster_desk_fair.specs.Fair.{fixed_beside}
use Rattle.roster_desk_fair.proofs.targets.fixed_at.Goals as goal

pub loop-j-preserved : goal.loop-j-preserved
loop-j-preserved c =
    let next = sum_by-range_next (fixed_beside c.args.problem.now c.args.k) c.loop-j.j in
    omega (arith, next, c.loop-j.invariant, c.fixed_of.ensures, c.in_ok-minutes.ensures)
