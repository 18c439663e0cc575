use Rattle.std.proofs.Common.{length, sym, ap, ◌∙◌, subst, arith}
use Rattle.std.proofs.lemmas.Bool.{both_ways}
use Rattle.roster_search_regions.specs.Regions.{IsIn}
use Rattle.roster_search_fixing.proofs.Decisions.{only_one}
use Rattle.roster_search_fixing.proofs.deciding.only.Goals as goal

pub returns-then-branch-clause-only : goal.returns-then-branch-clause-only
returns-then-branch-clause-only c others there =
    let pairings = ap length c.pairings-p-end.ensures.value in
    only_one c.args.problem.now c.args.region.now c.loop-p.places.items
    (omega (arith, pairings, c.loop-p.invariant.covers, c.loop-p-test.false, c.loop-p.auto.p-end))
    (λ p inside. c.loop-p.invariant.each p (omega (arith, pairings, c.loop-p-test.false))) others there

pub returns-clause-inside : goal.returns-clause-inside
returns-clause-inside c places there =
    let pairings = ap length c.pairings-p-end.ensures.value in
    let same =
    only_one c.args.problem.now c.args.region.now c.loop-p.places.items
    (omega (arith, pairings, c.loop-p.invariant.covers, c.loop-p-test.false, c.loop-p.auto.p-end))
    (λ p inside. c.loop-p.invariant.each p (omega (arith, pairings, c.loop-p-test.false))) places there in
    both_ways c.in_ok-is_in.field-0 c.if-branch.false (c.in_ok-is_in.ensures.1 (subst (IsIn c.args.problem.now c.args.region.now) (same ∙ sym c.deref.ensures.value) there))
