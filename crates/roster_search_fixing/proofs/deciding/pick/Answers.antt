use Rattle.std.proofs.Common.{length, ap, arith, below_more}
use Rattle.roster_search_regions.specs.Regions.{lines_of}
use Rattle.roster_search_fixing.specs.Splits.{AgreesOn}
use Rattle.roster_search_fixing.proofs.Decisions.{decided_by_each, split_within}
use Rattle.roster_search_fixing.proofs.deciding.pick.Goals as goal

pub returns-in-Some-clause-within : goal.returns-in-Some-clause-within
returns-in-Some-clause-within c =
    let persons = ap length c.persons-k-end.ensures.value in
    (omega (arith, persons, c.loop-k-test.true), split_within c.args.problem.now c.args.region.now c.loop-k.k c.in-Some.p c.requires (omega (arith, persons, c.loop-k-test.true)) c.in-Some.ensures)

pub loop-k-preserved : goal.loop-k-preserved
loop-k-preserved c =
    below_more (λ j. AgreesOn (lines_of c.args.region.now j)) c.loop-k.k c.loop-k.invariant c.in_default.ensures

pub returns-clause-split : goal.returns-clause-split
returns-clause-split c =
    let persons = ap length c.persons-k-end.ensures.value in
    decided_by_each c.args.region.now c.loop-k.k
    (omega (arith, persons, c.requires.covers, c.loop-k-test.false, c.loop-k.auto.k-end)) c.loop-k.invariant
