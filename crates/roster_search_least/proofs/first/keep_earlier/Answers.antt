use Rattle.std.proofs.Common.{◌≡◌, ◌≤◌, length, ap, arith, subst, sym}
use Rattle.roster_search_least.proofs.EarlierLemmas.{AreDenied, denied_all, denied_none, denied_one_more}
use Rattle.roster_search_least.proofs.first.keep_earlier.Goals as goal

pub loop-k-init : goal.loop-k-init
loop-k-init c =
    let problem = c.args.problem.now in
    record {
      denied = subst (λ k. AreDenied problem c.args.number c.args.p k c.args.region.now c.fly.new.self) (sym c.from-k.ensures)
          (denied_none problem c.args.number c.args.p c.args.region.now c.fly.new.self c.requires.number c.fly.ensures.narrowed c.fly.ensures.all);
    }

pub loop-k-preserved : goal.loop-k-preserved
loop-k-preserved c =
    let later : c.args.number ≤ c.loop-k.k = omega (arith, c.from-k.ensures, c.loop-k.auto.k) in
    record {
      denied = denied_one_more c.args.problem.now c.args.number c.args.p c.loop-k.k c.args.region.now c.loop-k.region c.deny.new.self c.loop-k.invariant.denied later c.in_ok-deny.ensures.narrowed c.in_ok-deny.ensures.all;
    }

pub returns-clause-wholly : goal.returns-clause-wholly
returns-clause-wholly c =
    let problem = c.args.problem.now in
    let persons : length c.persons-k-end.result.now ≡ length problem.persons = ap length c.persons-k-end.ensures.value in
    let from : c.from-k.result ≤ length c.persons-k-end.result.now =
    omega (arith, c.from-k.ensures, c.requires.number, persons) in
    let end = c.loop-k.auto.k-end from in
    let all : c.loop-k.k ≡ length problem.persons = omega (arith, c.loop-k-test.false, end, persons) in
    denied_all problem c.args.number c.args.p c.args.region.now c.loop-k.region c.requires.pairing
    (subst (λ k. AreDenied problem c.args.number c.args.p k c.args.region.now c.loop-k.region) all c.loop-k.invariant.denied)
