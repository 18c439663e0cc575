use Rattle.std.proofs.Common.{rules, ◌≡◌, ℕ, List, Option, ℤ, FitsSigned, w64, to_z, of_z, sym, subst, ◌∙◌}
use Rattle.std.proofs.lemmas.Int.{to_z-of_z}
use Rattle.std.proofs.lemmas.Result.{IfOk-at_ok}
use Rattle.roster_model.specs.Rosters.{Key}
use Rattle.roster_search_regions.specs.Regions.{IsIn, Region}
use Rattle.roster_search.specs.Open.{limit_of, IsExplored, IsInSome}
use Rattle.roster_search_threads.specs.Explored.{AreExplored}
use Rattle.roster_search_least.proofs.FindLemmas.{if_ok}
use Rattle.roster_search.proofs.OpenLemmas.{parts_left}
use Rattle.roster_search_threads.proofs.ExploredLemmas.{explored_dealt, explored_next}
use Rattle.roster_search_threads.proofs.exploring.+together.Goals as goal

pub explore_halves-returns-in_default : goal.explore_halves-returns-in_default
explore_halves-returns-in_default g t c =
    c.unexplored.ensures c.args.lent.now.problem.now c.args.lent.now.whole.now c.args.budget.most c.requires

pub explore_halves-returns : goal.explore_halves-returns
explore_halves-returns g t c =
    let problem = c.args.lent.now.problem.now in
    let whole : Region = c.args.lent.now.whole.now in
    let most : ℤ = c.args.budget.most in
    let nodes : List Region = c.args.nodes.items in
    let mine : List Region = c.in_ok-mine.mine.items in
    let theirs : List Region = c.in_ok-mine.theirs.items in
    let here = IfOk-at_ok (AreExplored problem whole mine most) c.in_ok-here.was c.join-here.ensures.first in
    let there = IfOk-at_ok (AreExplored problem whole theirs most) c.in_ok-there.was c.join-here.ensures.second in
    if_ok c.both.result _ (AreExplored problem whole nodes most) c.both.ensures
    (λ both is. explored_dealt problem (IsIn problem whole) most nodes mine theirs both.best both.left.items c.in_ok-mine.ensures (is problem whole mine theirs most here there))

pub explore_together-returns : goal.explore_together-returns
explore_together-returns g t c =
    let problem = c.args.lent.now.problem.now in
    let Whole : List ℕ → Type 0 = IsIn problem c.args.lent.now.whole.now in
    let nodes : List Region = c.args.nodes.items in
    let Here : List ℕ → Type 0 = IsInSome problem nodes in
    let left : List Region = c.in_ok-found.field-0.left.items in
    let most : ℤ = c.args.budget.most in
    let less : ℤ = to_z w64 (of_z w64 c.in-Some.most) in
    let best : Option Key = c.in_ok-found.field-0.best in
    let found : Option Key = c.in_ok-next.next.best in
    let after : Option Key = c.or_best.result.best in
    let rest : List Region = c.in_ok-next.next.left.items in
    let fits : FitsSigned w64 c.in-Some.most = search rules in
    let limit : less ≡ limit_of most best = to_z-of_z w64 c.in-Some.most fits ∙ c.in-Some.ensures.limit in
    let next = subst (λ less. IsExplored problem Whole (IsInSome problem left) less found rest) limit c.in_ok-next.ensures in
    subst (IsExplored problem Whole Here most after) (sym c.or_best.ensures.left) (explored_next problem Whole nodes most best found after left rest c.in_ok-found.ensures.explored next c.or_best.ensures.best)

pub explore_together-explore_halves-requires-after_bounds : goal.explore_together-explore_halves-requires-after_bounds
explore_together-explore_halves-requires-after_bounds g t c = λ _ _.
    let left : List Region = c.in_ok-found.field-0.left.items in
    parts_left c.args.lent.now.problem.now c.args.lent.now.whole.now c.args.nodes.items left _ c.requires c.in_ok-found.ensures.explored.still
