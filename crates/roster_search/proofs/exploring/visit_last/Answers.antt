use Rattle.std.proofs.Common.{◌≡◌, ◌++◌, List, [], ◌∷◌, None, Some, ℤ, w64, to_z, of_z, subst, ap, ◌∙◌}
use Rattle.std.proofs.lemmas.Int.{to_z-of_z}
use Rattle.std.proofs.lemmas.List.Elements.{All-pop}
use Rattle.roster_search_regions.specs.Regions.{IsRegion, Region}
use Rattle.roster_search.specs.Open.{IsExplored, IsInSome, IsVisited}
use Rattle.roster_search.proofs.OpenLemmas.{last_has_none, last_has_one, last_is_parted, weight_left, weight_parted, weight_popped}
use Rattle.roster_search.proofs.exploring.visit_last.Goals as goal

pub returns-in-Nothing-clause-explored : goal.returns-in-Nothing-clause-explored
returns-in-Nothing-clause-explored c =
    let problem = c.args.problem.now in
    let most : ℤ = to_z w64 (of_z w64 c.args.most) in
    let old : List Region = c.args.nodes.now.items in
    let front : List Region = c.pop.new.self.items in
    let visited = subst (IsVisited problem c.in-Some.node most) c.in-Nothing.is c.in_ok-visit.ensures in
    let are = All-pop (IsRegion problem) old front c.pop.result c.pop.ensures.items c.requires.nodes in
    subst (λ most. IsExplored problem (IsInSome problem old) (IsInSome problem old) most None front)
    (to_z-of_z w64 c.args.most c.ranges.most)
    (last_has_none problem most old front c.in-Some.node c.in-Some.ensures.items are.0 visited)

pub returns-in-Nothing-clause-lighter : goal.returns-in-Nothing-clause-lighter
returns-in-Nothing-clause-lighter c =
    weight_popped c.args.nodes.now.items c.pop.new.self.items c.in-Some.node c.in-Some.ensures.items

pub returns-in_ok-push-in-Found-clause-explored : goal.returns-in_ok-push-in-Found-clause-explored
returns-in_ok-push-in-Found-clause-explored c =
    let problem = c.args.problem.now in
    let most : ℤ = to_z w64 (of_z w64 c.args.most) in
    let old : List Region = c.args.nodes.now.items in
    let front : List Region = c.pop.new.self.items in
    let new : List Region = c.push.new.self.items in
    let visited = subst (IsVisited problem c.in-Some.node most) c.in-Found.is c.in_ok-visit.ensures in
    let are = All-pop (IsRegion problem) old front c.pop.result c.pop.ensures.items c.requires.nodes in
    subst
    (λ most. IsExplored problem (IsInSome problem old) (IsInSome problem old) most (Some c.in-Found.roster) new)
    (to_z-of_z w64 c.args.most c.ranges.most)
    (last_has_one problem most old front new c.in-Some.node c.in-Found.left c.in-Found.roster c.in-Some.ensures.items c.in_ok-push-in-Found.ensures.items are.0 visited.0 visited.1)

pub returns-in_ok-push-in-Found-clause-lighter : goal.returns-in_ok-push-in-Found-clause-lighter
returns-in_ok-push-in-Found-clause-lighter c =
    let problem = c.args.problem.now in
    let most : ℤ = to_z w64 (of_z w64 c.args.most) in
    let visited = subst (IsVisited problem c.in-Some.node most) c.in-Found.is c.in_ok-visit.ensures in
    weight_left c.args.nodes.now.items c.pop.new.self.items c.push.new.self.items c.in-Some.node c.in-Found.left c.in-Some.ensures.items c.in_ok-push-in-Found.ensures.items visited.1.size

pub returns-in_ok-push-in-Parted-2-clause-explored : goal.returns-in_ok-push-in-Parted-2-clause-explored
returns-in_ok-push-in-Parted-2-clause-explored c =
    let problem = c.args.problem.now in
    let most : ℤ = to_z w64 (of_z w64 c.args.most) in
    let old : List Region = c.args.nodes.now.items in
    let front : List Region = c.pop.new.self.items in
    let having : Region = c.in-Parted.having in
    let others : Region = c.in-Parted.others in
    let new : List Region = c.push-in-Parted-2.new.self.items in
    let visited = subst (IsVisited problem c.in-Some.node most) c.in-Parted.is c.in_ok-visit.ensures in
    let are = All-pop (IsRegion problem) old front c.pop.result c.pop.ensures.items c.requires.nodes in
    let more : new ≡ (front ++ others ∷ []) ++ having ∷ [] =
    c.in_ok-push-in-Parted-2.ensures.items
    ∙ ap (λ xs. xs ++ having ∷ []) c.in_ok-push-in-Parted.ensures.items in
    subst (λ most. IsExplored problem (IsInSome problem old) (IsInSome problem old) most None new)
    (to_z-of_z w64 c.args.most c.ranges.most)
    (last_is_parted problem most old front new c.in-Some.node having others c.in-Some.ensures.items more are.0 visited)

pub returns-in_ok-push-in-Parted-2-clause-lighter : goal.returns-in_ok-push-in-Parted-2-clause-lighter
returns-in_ok-push-in-Parted-2-clause-lighter c =
    let problem = c.args.problem.now in
    let most : ℤ = to_z w64 (of_z w64 c.args.most) in
    let front : List Region = c.pop.new.self.items in
    let having : Region = c.in-Parted.having in
    let others : Region = c.in-Parted.others in
    let new : List Region = c.push-in-Parted-2.new.self.items in
    let visited = subst (IsVisited problem c.in-Some.node most) c.in-Parted.is c.in_ok-visit.ensures in
    let more : new ≡ (front ++ others ∷ []) ++ having ∷ [] =
    c.in_ok-push-in-Parted-2.ensures.items
    ∙ ap (λ xs. xs ++ having ∷ []) c.in_ok-push-in-Parted.ensures.items in
    weight_parted c.args.nodes.now.items front new c.in-Some.node having others c.in-Some.ensures.items more visited.fewer_having visited.fewer_others
