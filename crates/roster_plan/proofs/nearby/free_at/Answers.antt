use Rattle.std.proofs.Common.{ap, length, arith}
use Rattle.roster_plan.proofs.NearLemmas.{free_near, near_home}
use Rattle.roster_plan.proofs.nearby.free_at.Goals as goal

pub returns-clause-all : goal.returns-clause-all
returns-clause-all c = λ places legal home. free_near c.args.problem.now c.args.base c.loop-k.wanted.items places c.loop-k.invariant.free (omega (arith, c.loop-k-test.false, c.loop-k.auto.k-end, c.loop-k.invariant.covers, ap length c.persons-k-end.ensures.value)) legal home

pub returns-clause-no_more : goal.returns-clause-no_more
returns-clause-no_more c = λ places near. near_home c.args.problem.now c.args.base c.loop-k.wanted.items places c.loop-k.invariant.free (omega (arith, c.loop-k-test.false, c.loop-k.auto.k-end, c.loop-k.invariant.covers, ap length c.persons-k-end.ensures.value)) near
