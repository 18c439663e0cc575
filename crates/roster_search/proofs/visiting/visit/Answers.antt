use Rattle.std.proofs.Common.{w64, ℤ, List, ℕ, to_z, of_z, subst, arith}
use Rattle.std.proofs.lemmas.Int.{ints, to_z-of_z}
use Rattle.roster_search_least.proofs.FindLemmas.{if_ok}
use Rattle.roster_search_regions.specs.Regions.{IsIn}
use Rattle.roster_search_fixing.specs.Bounds.{CostsAtMost}
use Rattle.roster_search.specs.Open.{IsVisited}
use Rattle.roster_search.proofs.OpenLemmas.{visited_at_most}
use Rattle.roster_search.proofs.visiting.visit.Goals as goal

pub returns : goal.returns
returns c =
    let problem = c.args.problem.now in
    let node = c.args.node in
    let low : ℤ = to_z w64 (of_z w64 c.cost_at_most-most.result) in
    let most : ℤ = c.args.most in
    let at = subst (λ m. (places : List ℕ) → IsIn problem c.node.inside.region places → CostsAtMost problem m places → CostsAtMost problem c.cost_at_most-most.result places) (to_z-of_z w64 c.args.most c.ranges.most) c.cost_at_most-most.ensures.same in
    let same = subst (λ region. (places : List ℕ) → IsIn problem region places → CostsAtMost problem most places → CostsAtMost problem c.cost_at_most-most.result places) c.node.view_is at in
    if_ok c.visit_at.result (IsVisited problem node low) (IsVisited problem node most) c.visit_at.ensures
    (λ visited is. visited_at_most problem node most low visited (omega (arith, ints, c.cost_at_most-most.ensures.most)) (λ places there within. let few = same places there within in omega (arith, ints, few)) is)
