use Rattle.std.proofs.Common.{◌≤◌, ℕ, length, get_or, sym, ap, subst, arith, rules}
use Rattle.roster_plan.specs.Kept.{AreKept, IsKeptNext}
use Rattle.roster_plan.proofs.KeptLemmas.{all_kept, one_more, roster_kept}
use Rattle.roster_plan.proofs.kept.kept.Goals as goal

pub loop-number-preserved : goal.loop-number-preserved
loop-number-preserved c =
    let problem = c.args.problem.now in
    let given = c.args.given.now in
    let kept = c.loop-number.kept.items in
    let long = c.loop-number.invariant.long in
    let number : ℕ = get_or given c.loop-number.number-index 0 in
    let fits : IsKeptNext problem kept number c.in_ok-next.next = subst (λ front. IsKeptNext problem front number c.in_ok-next.next) c.deref.ensures.value c.in_ok-next.ensures.next in
    let most : number ≤ length problem.persons =
    c.requires.numbers c.loop-number.number-index 0 (omega (arith, c.loop-number-test.true)) in
    let more =
    one_more problem given kept number c.in_ok-next.next c.loop-number.invariant.are
    (ap (λ i. get_or given i 0) (sym long)) most fits in
    record {
      judge = c.next_kept.ensures.judge;
      long = search rules;
      are = subst (AreKept problem given) (sym c.in_ok-push.ensures.items) more;
    }

pub returns-clause-legal : goal.returns-clause-legal
returns-clause-legal c =
    roster_kept c.args.problem.now c.args.given.now c.loop-number.kept.items c.loop-number.invariant.are
    (search rules)

pub returns-clause-kept : goal.returns-clause-kept
returns-clause-kept c =
    all_kept c.args.problem.now c.args.given.now c.loop-number.kept.items c.loop-number.invariant.are
    (search rules)
