use Rattle.std.proofs.Common.{length, ap, arith}
use Rattle.roster_model.specs.Rosters.{IsVerdictIn}
use Rattle.roster_report.proofs.OfPersons.{SaidBefore-more, AreOfEach-before}
use Rattle.roster_report.proofs.said.verdicts_of.Goals as goal

pub loop-k-preserved : goal.loop-k-preserved
loop-k-preserved c =
    SaidBefore-more (IsVerdictIn c.args.problem.now c.args.places.now) c.loop-k.k c.loop-k.verdicts.items _ c.in_ok-verdict_of.field-0 c.loop-k.invariant c.in_ok-push.ensures.items c.in_ok-verdict_of.ensures

pub returns : goal.returns
returns c =
    AreOfEach-before (IsVerdictIn c.args.problem.now c.args.places.now) c.args.problem.now c.loop-k.k c.loop-k.verdicts.items c.loop-k.invariant (omega (arith, ap length c.persons-count.ensures.value))
