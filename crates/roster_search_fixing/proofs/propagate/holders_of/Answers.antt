use Rattle.std.proofs.Common.{length, ap, subst, arith}
use Rattle.roster_search_fixing.specs.Propagation.{IsSoleBefore}
use Rattle.roster_search_fixing.proofs.PropagationLemmas.{nobody_has, one_has}
use Rattle.roster_search_fixing.proofs.propagate.holders_of.Goals as goal

pub returns-in-Some : goal.returns-in-Some
returns-in-Some c =
    let persons = ap length c.persons-k-end.ensures.value in
    let sole = subst (IsSoleBefore c.args.region.now c.args.p c.loop-k.k) c.in-Some.is c.loop-k.invariant in (
      omega (arith, persons, sole.0, c.loop-k.auto.k-end),
      one_has c.args.problem.now c.args.region.now c.args.p c.in-Some.k c.requires.region c.requires.pairing
          (λ j inside other. sole.1 j (omega (arith, persons, c.loop-k-test.false)) other),
    )

pub returns-in-None : goal.returns-in-None
returns-in-None c =
    let persons = ap length c.persons-k-end.ensures.value in
    let none = subst (IsSoleBefore c.args.region.now c.args.p c.loop-k.k) c.in-None.is c.loop-k.invariant in
    nobody_has c.args.problem.now c.args.region.now c.args.p c.requires.region c.requires.pairing
    (λ j inside. none j (omega (arith, persons, c.loop-k-test.false)))
