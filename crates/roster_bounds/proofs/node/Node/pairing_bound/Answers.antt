use Rattle.std.proofs.Common.{◌≡◌, ◌∙◌, ℤ, ◌≤ℤ◌, length, ap, sym, subst, arith}
use Rattle.std.proofs.lemmas.Int.{ints}
use Rattle.roster_model.specs.Problem.{Problem}
use Rattle.roster_bounds.specs.Chosen.{penalty_or_price, ChosenLines, IsOfNode}
use Rattle.roster_bounds.proofs.PricedLines.{same_word64}
use Rattle.roster_bounds.proofs.OfNode.{below_both, penalty_of_other, price_of_placed}
use Rattle.roster_bounds.proofs.node.Node.pairing_bound.Goals as goal

-- a number that isn't above its own word's is at most the other
at_most : (word number bound : ℤ) → word ≡ number → number ≤ℤ bound → word ≤ℤ bound
at_most word number bound same most = subst (λ (z : ℤ). z ≤ℤ bound) (sym same) most

pub returns-then-has-clause-below : goal.returns-then-has-clause-below
returns-then-has-clause-below c places x of at =
    let inside = c.self.inside in
    let node : ChosenLines = record { tables = inside.tables.now; lines = inside.lines.items } in
    let here = subst (λ (n : ChosenLines). IsOfNode n places) (sym c.self.view_is) of in
    let price =
    price_of_placed node inside.placed places inside.reduced c.args.p x c.self.invariant here at
    (sym c.if-has.ensures.value) in
    let same =
    same_word64 c.price.result c.price.type_inv ∙ c.price.ensures.value ∙ sym price
    ∙ ap (λ (n : ChosenLines). penalty_or_price n.tables c.args.p x) c.self.view_is in
    omega (arith, ints, same)

pub returns-then-len-persons-clause-below : goal.returns-then-len-persons-clause-below
returns-then-len-persons-clause-below c places x of at =
    let inside = c.self.inside in
    let node : ChosenLines = record { tables = inside.tables.now; lines = inside.lines.items } in
    let here = subst (λ (n : ChosenLines). IsOfNode n places) (sym c.self.view_is) of in
    let items = inside.lines.ok.0 in
    let persons = ap (λ (problem : Problem). length problem.persons) c.problem.ensures in
    let all : length inside.lines.items ≡ length inside.tables.now.problem.persons =
    omega
    (arith, c.if-len-persons.true, c.len.ensures, items, ap length c.persons.ensures.value, persons) in
    let penalty =
    penalty_of_other node inside.placed places inside.reduced c.args.p x c.self.invariant here at
    (sym c.if-has.ensures.value) all in
    let same =
    same_word64 c.penalty.result c.penalty.type_inv ∙ c.penalty.ensures.value ∙ sym penalty
    ∙ ap (λ (n : ChosenLines). penalty_or_price n.tables c.args.p x) c.self.view_is in
    omega (arith, ints, same)

pub returns-clause-below : goal.returns-clause-below
returns-clause-below c places x of at =
    let tables = c.self.inside.tables.now in
    let both = below_both tables c.args.p x c.penalty_or_price.result c.penalty_or_price.ensures.price c.penalty_or_price.ensures.penalty in
    at_most _ c.penalty_or_price.result _ (same_word64 c.penalty_or_price.result c.penalty_or_price.type_inv)
    (subst (λ (n : ChosenLines). c.penalty_or_price.result ≤ℤ penalty_or_price n.tables c.args.p x) c.self.view_is both)
