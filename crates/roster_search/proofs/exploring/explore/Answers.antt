use Rattle.std.proofs.Common.{rules, ◌≡◌, List, ℕ, None, Some, Option, ℤ, FitsSigned, w64, to_z, of_z, subst, ◌∙◌}
use Rattle.std.proofs.lemmas.Int.{to_z-of_z}
use Rattle.roster_model.specs.Rosters.{Key}
use Rattle.roster_search_regions.specs.Regions.{IsIn, Region}
use Rattle.roster_search.specs.Open.{limit_of, IsExplored, IsInSome}
use Rattle.roster_search.proofs.OpenLemmas.{explored_more, explored_on, parts_left}
use Rattle.roster_search.proofs.exploring.explore.Goals as goal

pub next-requires-clause-nodes : goal.next-requires-clause-nodes
next-requires-clause-nodes g c =
    let before = c.loop-most.invariant.explored in
    parts_left c.args.problem.now c.args.whole.now c.args.nodes.items c.loop-most.left.items _ c.requires before.still

pub loop-most-preserved-in-Some-2 : goal.loop-most-preserved-in-Some-2
loop-most-preserved-in-Some-2 g c =
    let problem = c.args.problem.now in
    let Whole : List ℕ → Type 0 = IsIn problem c.args.whole.now in
    let Here : List ℕ → Type 0 = IsInSome problem c.args.nodes.items in
    let Left : List ℕ → Type 0 = IsInSome problem c.loop-most.left.items in
    let most : ℤ = c.args.budget.most in
    let less : ℤ = to_z w64 (of_z w64 c.in-Some.most) in
    let best : Option Key = c.loop-most.best in
    let new : List Region = c.next.new.nodes.items in
    let fits : FitsSigned w64 c.in-Some.most = search rules in
    let limit : less ≡ limit_of most best = to_z-of_z w64 c.in-Some.most fits ∙ c.in-Some.ensures.limit in
    let visited = subst (λ (found : Option Key). IsExplored problem Whole Left less found new) c.in-Some-2.is c.in_ok-roster.ensures.explored in
    let then = subst (λ less. IsExplored problem Whole Left less (Some c.in-Some-2.roster) new) limit visited in
    record {
      explored = explored_more problem Whole Here most best c.in-Some-2.roster c.loop-most.left.items new c.loop-most.invariant.explored then;
      goes_on = g.met.S.Stop.follows _ _ _ (g.met.S.Stop.follows _ _ _ c.loop-most.invariant.goes_on c.node.ensures) c.in_ok-roster.ensures.goes_on;
    }

pub loop-most-preserved : goal.loop-most-preserved
loop-most-preserved g c =
    let problem = c.args.problem.now in
    let Whole : List ℕ → Type 0 = IsIn problem c.args.whole.now in
    let Here : List ℕ → Type 0 = IsInSome problem c.args.nodes.items in
    let Left : List ℕ → Type 0 = IsInSome problem c.loop-most.left.items in
    let most : ℤ = c.args.budget.most in
    let less : ℤ = to_z w64 (of_z w64 c.in-Some.most) in
    let best : Option Key = c.loop-most.best in
    let new : List Region = c.next.new.nodes.items in
    let fits : FitsSigned w64 c.in-Some.most = search rules in
    let limit : less ≡ limit_of most best = to_z-of_z w64 c.in-Some.most fits ∙ c.in-Some.ensures.limit in
    let visited = subst (λ (found : Option Key). IsExplored problem Whole Left less found new) c.in_default-2.is c.in_ok-roster.ensures.explored in
    let then = subst (λ less. IsExplored problem Whole Left less None new) limit visited in
    record {
      explored = explored_on problem Whole Here most best c.loop-most.left.items new c.loop-most.invariant.explored then;
      goes_on = g.met.S.Stop.follows _ _ _ (g.met.S.Stop.follows _ _ _ c.loop-most.invariant.goes_on c.node.ensures) c.in_ok-roster.ensures.goes_on;
    }

pub returns-in_err-roster-clause-goes_on : goal.returns-in_err-roster-clause-goes_on
returns-in_err-roster-clause-goes_on g c =
    g.met.S.Stop.follows _ _ _ (g.met.S.Stop.follows _ _ _ c.loop-most.invariant.goes_on c.node.ensures) c.next.ensures.goes_on
