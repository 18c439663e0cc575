use Rattle.std.proofs.Common.{arith}
use Rattle.roster_model.proofs.SumLemmas.{sum_by-range_next}
use Rattle.roster_desk_fair.specs.Fair.{pairing_beside}
use Rattle.roster_desk_fair.proofs.targets.pairings_at.Goals as goal

pub loop-p-preserved : goal.loop-p-preserved
loop-p-preserved c =
    let next = sum_by-range_next (pairing_beside c.args.problem.now c.args.k) c.loop-p.p in
    omega (arith, next, c.loop-p.invariant, c.pairing_of.ensures, c.in_ok-minutes.ensures)
