use Rattle.std.proofs.Common.{length, sym, ap, ◌∙◌, arith}
use Rattle.roster_search_fixing.proofs.PropagationLemmas.{owner_has}
use Rattle.roster_search_fixing.proofs.propagate.owner.Goals as goal

pub returns-then-width-gt0-clause-all : goal.returns-then-width-gt0-clause-all
returns-then-width-gt0-clause-all c =
    let persons = ap length c.persons-k-end.ensures.value in
    owner_has c.args.problem.now c.args.region.now c.loop-k.k c.args.p c.certain.result c.requires
    (omega (arith, persons, c.loop-k-test.true)) c.certain.ensures
    (omega (arith, c.width.ensures, c.if-width-gt0.true)) (sym c.has.ensures.value ∙ c.if-has.true)
