use Rattle.std.proofs.Common.{List, ℕ, None, Some, Option, ℤ, w64, to_z, of_z, subst}
use Rattle.std.proofs.lemmas.Int.{to_z-of_z}
use Rattle.roster_model.specs.Rosters.{Key}
use Rattle.roster_search_regions.specs.Regions.{IsIn}
use Rattle.roster_search.specs.Open.{IsExplored, IsInSome}
use Rattle.roster_search.proofs.OpenLemmas.{explored_in}
use Rattle.roster_search.proofs.exploring.next.Goals as goal

pub returns-in-Some-2-clause-explored : goal.returns-in-Some-2-clause-explored
returns-in-Some-2-clause-explored g c =
    let problem = c.args.problem.now in
    let Whole : List ℕ → Type 0 = IsIn problem c.args.whole.now in
    let Here : List ℕ → Type 0 = IsInSome problem c.args.nodes.now.items in
    let left = c.visit_last.new.nodes.items in
    let most : ℤ = to_z w64 (of_z w64 c.args.most) in
    let found = subst (λ (found : Option Key). IsExplored problem Here Here most found left) c.in-Some-2.is c.in_ok-found.ensures.explored in
    let inside = explored_in problem Here Whole Here most (Some c.in-Some-2.found) left c.requires.nodes.inside found in
    subst (λ most. IsExplored problem Whole Here most (Some c.in-Some-2.found) left) (to_z-of_z w64 c.args.most c.ranges.most) inside

pub returns-in-None-clause-explored : goal.returns-in-None-clause-explored
returns-in-None-clause-explored g c =
    let problem = c.args.problem.now in
    let Whole : List ℕ → Type 0 = IsIn problem c.args.whole.now in
    let Here : List ℕ → Type 0 = IsInSome problem c.args.nodes.now.items in
    let left = c.visit_last.new.nodes.items in
    let most : ℤ = to_z w64 (of_z w64 c.args.most) in
    let found = subst (λ (found : Option Key). IsExplored problem Here Here most found left) c.in-None.is c.in_ok-found.ensures.explored in
    let inside = explored_in problem Here Whole Here most None left c.requires.nodes.inside found in
    subst (λ most. IsExplored problem Whole Here most None left) (to_z-of_z w64 c.args.most c.ranges.most) inside
