use Rattle.std.proofs.Common.{◌≡◌, ◌+◌, ◌≤◌, suc, ℕ, length, ℤ, ◌≤ℤ◌, to_z, sym, ap, ◌∙◌, subst, arith}
use Rattle.std.specs.Int.{w128}
use Rattle.std.specs.List.{range_with_len}
use Rattle.std.proofs.lemmas.Int.{ints}
use Rattle.roster_model.specs.Costs.{total}
use Rattle.roster_model.specs.Places.{set_of}
use Rattle.roster_model.specs.Problem.{Problem}
use Rattle.roster_bounds.specs.Amounts.{AreReduced}
use Rattle.roster_bounds.specs.Chosen.{reduced_at, ChosenLines, IsNode}
use Rattle.roster_model.specs.declared.limits.TheConstants.{MOST_PERSONS}
use Rattle.roster_bounds.proofs.PricedLines.{same_many, same_more, AreReduced-more}
use Rattle.roster_bounds.proofs.Summed.{total-chosen, total-range_more}
use Rattle.roster_bounds.proofs.node.Node.persons_bound.Goals as goal

pub loop-k-init : goal.loop-k-init
loop-k-init c =
    let node = c.args.self.now in
    let inside = c.self.inside in
    let items = inside.lines.ok.0 in
    let chosen : length node.lines ≡ length inside.lines.items =
    ap (λ (n : ChosenLines). length n.lines) (sym c.self.view_is) in
    let count : c.len-k.result ≡ length node.lines = omega (arith, c.len-k.ensures, items, chosen) in
    let is = subst (λ (n : ChosenLines). IsNode n.tables n.lines inside.placed inside.reduced) c.self.view_is c.self.invariant in
    let persons = ap (λ (problem : Problem). length problem.persons) c.problem.ensures in
    let limit = ap (λ (n : ChosenLines). length n.tables.problem.persons) c.self.view_is in
    let few : length node.lines ≤ MOST_PERSONS = omega (arith, is.apart.persons, c.if-prove.false, ap length c.persons-persons.ensures.value, persons, limit) in
    let told = same_many inside.reduced (length node.lines) few is.fits in
    record {
      below = λ places of.
          let f : ℕ → ℤ = λ k. reduced_at node.tables k (set_of k places) in
          let same = total-chosen node.tables node.lines places of.has in
          let all = ap (λ n. total f (range_with_len 0 n)) count in
          omega (arith, ints, told, is.sum, same, all);
      fits =
          subst (AreReduced c.len-k.result) (sym told)
          (subst (λ n. AreReduced n inside.reduced) (sym count) is.fits);
      chosen = omega (arith, count);
    }

pub loop-k-preserved : goal.loop-k-preserved
loop-k-preserved c =
    let node = c.args.self.now in
    let k = c.loop-k.k in
    let sum : ℤ = to_z w128 c.loop-k.sum-bits in
    let more = c.person_bound-sum.result in
    let inside : k ≤ MOST_PERSONS = omega (arith, c.loop-k-test.true, c.if-prove.false) in
    let told = same_more sum more k inside c.loop-k.invariant.fits c.person_bound-sum.ensures.fits in
    record {
      below = λ places of.
          let f : ℕ → ℤ = λ j. reduced_at node.tables j (set_of j places) in
          let next : k + 1 ≡ suc k = omega arith in
          let all = ap (λ n. total f (range_with_len 0 n)) next ∙ total-range_more f 0 k k (omega arith) in
          let low = c.loop-k.invariant.below places of in
          let here = c.person_bound-sum.ensures.below places of in
          omega (arith, ints, told, all, low, here);
      fits =
          subst (AreReduced (k + 1)) (sym told)
          (AreReduced-more sum more k c.loop-k.invariant.fits c.person_bound-sum.ensures.fits);
      chosen = omega (arith, c.loop-k.invariant.chosen);
    }

pub returns-clause-below : goal.returns-clause-below
returns-clause-below c places of =
    let node = c.args.self.now in
    let f : ℕ → ℤ = λ j. reduced_at node.tables j (set_of j places) in
    let persons = ap (λ (problem : Problem). length problem.persons) c.problem.ensures in
    let limit = ap (λ (n : ChosenLines). length n.tables.problem.persons) c.self.view_is in
    let values = ap length c.persons-persons.ensures.value in
    let items = c.self.inside.lines.ok.0 in
    let fewer : c.len-k.result ≤ length c.persons-persons.result.now =
    omega (arith, c.len-k.ensures, items, c.self.invariant.apart.persons, values, persons) in
    let all : c.loop-k.k ≡ length node.tables.problem.persons =
    omega (arith, c.loop-k-test.false, c.loop-k.auto.k-end fewer, values, persons, limit) in
    let low = c.loop-k.invariant.below places of in
    subst (λ n. to_z w128 c.loop-k.sum-bits ≤ℤ total f (range_with_len 0 n)) all low
