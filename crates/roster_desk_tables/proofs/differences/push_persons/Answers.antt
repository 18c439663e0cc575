use Rattle.std.proofs.Common.{◌≡◌, length, ap, arith, subst}
use Rattle.roster_desk_tables.specs.Differences.{HavePersons}
use Rattle.roster_desk_tables.proofs.Having.{have_more, have_none}
use Rattle.roster_desk_tables.proofs.differences.push_persons.Goals as goal

-- src/differences.rt:274:5
pub loop-k-init : goal.loop-k-init
loop-k-init c = have_none _ _

-- src/differences.rt:274:5
pub loop-k-preserved : goal.loop-k-preserved
loop-k-preserved c = have_more _ _ _ _ _ c.loop-k.invariant c.in_ok-push_person.ensures

-- src/differences.rt:262:1
pub returns : goal.returns
returns c =
    let persons : length c.persons-k-end.result.now ≡ length c.args.problem.now.persons =
    ap length c.persons-k-end.ensures.value in
    let all : c.loop-k.k ≡ length c.args.problem.now.persons =
    omega (arith, persons, c.loop-k.auto.k-end, c.loop-k-test.false) in
    subst (λ n. HavePersons c.args.problem.now c.args.before.now c.args.after.now n
    c.args.out.now.items c.loop-k.out.items) all c.loop-k.invariant
