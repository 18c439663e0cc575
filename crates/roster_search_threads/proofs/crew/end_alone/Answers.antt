use Rattle.std.proofs.Common.{rules, ◌≡◌, ℕ, List, Option, ℤ, FitsSigned, w64, to_z, of_z, sym, subst, ◌∙◌}
use Rattle.std.proofs.lemmas.Int.{to_z-of_z}
use Rattle.roster_model.specs.Rosters.{Key}
use Rattle.roster_search_regions.specs.Regions.{IsIn, Region}
use Rattle.roster_search.specs.Open.{limit_of, IsExplored, IsInSome, IsOver}
use Rattle.roster_search.proofs.OpenLemmas.{one_is_over}
use Rattle.roster_search_threads.proofs.ExploredLemmas.{explored_next}
use Rattle.roster_search_threads.proofs.crew.end_alone.Goals as goal

pub returns-in-None : goal.returns-in-None
returns-in-None c nodes same explored =
    let problem = c.args.problem.now in
    let whole : Region = c.args.whole.now in
    let Whole : List ℕ → Type 0 = IsIn problem whole in
    let Here : List ℕ → Type 0 = IsInSome problem nodes in
    let left : List Region = c.args.explored.left.items in
    let most : ℤ = c.args.budget.most in
    let enough : ℤ = c.args.budget.enough in
    let less : ℤ = to_z w64 (of_z w64 c.in-Some.most) in
    let best : Option Key = c.args.explored.best in
    let found : Option Key = c.in_ok-rest.rest.best in
    let after : Option Key = c.or_best-best.result.best in
    let rest : List Region = c.in_ok-rest.rest.left.items in
    let fits : FitsSigned w64 c.in-Some.most = search rules in
    let limit : less ≡ limit_of most best = to_z-of_z w64 c.in-Some.most fits ∙ c.in-Some.ensures.limit in
    let next = subst (λ less. IsExplored problem Whole (IsInSome problem left) less found rest) limit c.in_ok-rest.ensures.explored in
    let now = subst (IsExplored problem Whole Here most after) (sym c.or_best-best.ensures.left) (explored_next problem Whole nodes most best found after left rest explored next c.or_best-best.ensures.best) in
    let over : IsOver enough after c.or_best-best.result.left.items = subst (IsOver enough after) c.deref-2.ensures.value (c.limit-2.ensures.over c.in-None.is) in
    one_is_over problem whole nodes c.or_best-best.result.left.items most enough after same over now

pub returns-in_default : goal.returns-in_default
returns-in_default c nodes same explored =
    let problem = c.args.problem.now in
    let whole : Region = c.args.whole.now in
    let Whole : List ℕ → Type 0 = IsIn problem whole in
    let Here : List ℕ → Type 0 = IsInSome problem nodes in
    let left : List Region = c.args.explored.left.items in
    let most : ℤ = c.args.budget.most in
    let enough : ℤ = c.args.budget.enough in
    let best : Option Key = c.args.explored.best in
    let over : IsOver enough best left = subst (IsOver enough best) c.deref.ensures.value (c.limit.ensures.over c.in_default.is) in
    one_is_over problem whole nodes left most enough best same over explored
