use Rattle.std.proofs.Common.{length, ap, arith}
use Rattle.roster_model.specs.Rules.{IsLock}
use Rattle.roster_report.proofs.OfPersons.{SaidBefore-more, AreOfEach-before}
use Rattle.roster_report.proofs.said.locks_of.Goals as goal

pub loop-k-preserved : goal.loop-k-preserved
loop-k-preserved c =
    SaidBefore-more (IsLock c.args.problem.now) c.loop-k.k c.loop-k.locks.items _ c.in_ok-locked.field-0 c.loop-k.invariant c.in_ok-push.ensures.items c.in_ok-locked.ensures

pub returns : goal.returns
returns c =
    AreOfEach-before
    (IsLock c.args.problem.now) c.args.problem.now c.loop-k.k c.loop-k.locks.items c.loop-k.invariant
    (omega (arith, ap length c.persons-count.ensures.value))
