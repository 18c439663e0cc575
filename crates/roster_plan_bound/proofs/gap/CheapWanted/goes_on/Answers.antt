use Rattle.std.proofs.Common.{◌≡◌, ℕ, List, [], ◌∷◌, ◌++◌, subst, sym, ap, ◌∙◌, arith, ℤ, ◌≤ℤ◌, w64, to_z, of_z, FitsSigned, rules}
use Rattle.std.proofs.lemmas.Bool.{false≢true}
use Rattle.std.proofs.lemmas.Int.{ints, to_z-of_z}
use Rattle.roster_model.specs.Lines.{IsLine}
use Rattle.roster_model.specs.Problem.{home_of}
use Rattle.roster_plan_bound.specs.Chains.{chain_value}
use Rattle.roster_plan_bound.specs.Reduced.{reduced}
use Rattle.roster_plan_bound.proofs.ChainLemmas.{line_is_chain, reduced_below, AddsFlight}
use Rattle.roster_plan_bound.proofs.gap.CheapWanted.goes_on.Goals as goal

pub returns-then-least-self : goal.returns-then-least-self
returns-then-least-self c is rest line cheap =
    let inner = c.self.inside in
    let problem = inner.problem.now in
    let k = inner.person in
    let network = inner.network.now in
    let set : List ℕ = c.args.set.now ++ c.args.p ∷ rest in
    let same : problem ≡ c.args.problem.now = ap (λ v. v.problem) c.self.view_is ∙ cheap.same in
    let person : k ≡ c.args.k = ap (λ v. v.person) c.self.view_is ∙ cheap.person in
    let own : IsLine problem k set =
    subst (λ p. IsLine p k set) (sym same)
    (subst (λ j. IsLine c.args.problem.now j set) (sym person) line) in
    let days = (home_of problem k).days in
    let adds : AddsFlight problem k set =
    let whole = c.flight_of_set.ensures problem days k set own.ascending in
    let none = c.flight_of_set.ensures problem days k [] (λ i inside. absurd (omega arith)) in
    omega (arith, whole, none) in
    let chain = line_is_chain problem k network
    (λ whole part parts legal. c.part_of_legal_is_legal.ensures problem k whole part c.is_sound.ensures.ordered c.is_sound.ensures.timed parts legal)
    c.self.invariant.is set own in
    let below = c.least_behind-least.ensures rest chain in
    let cost = reduced_below problem inner.prices.now k network inner.values.items set c.self.invariant.is c.self.invariant.are adds own in
    let most : reduced problem inner.prices.now k set ≤ℤ c.args.self.now.most =
    subst (λ ps. reduced problem ps k set ≤ℤ c.args.self.now.most) (sym (ap (λ v. v.prices) c.self.view_is))
    (subst (λ j. reduced problem c.args.self.now.prices j set ≤ℤ c.args.self.now.most) (sym person)
    (subst (λ p. reduced p c.args.self.now.prices c.args.k set ≤ℤ c.args.self.now.most) (sym same) cheap.most)) in
    let limit : inner.most ≡ c.args.self.now.most = ap (λ v. v.most) c.self.view_is in
    let least : ℤ = c.least_behind-least.result in
    let least_fits : FitsSigned w64 least = search rules in
    let least_told : to_z w64 (of_z w64 least) ≡ least = to_z-of_z w64 least least_fits in
    let most_fits : FitsSigned w64 inner.most = search rules in
    let most_told : to_z w64 (of_z w64 inner.most) ≡ inner.most = to_z-of_z w64 inner.most most_fits in
    let values : chain_value network c.deref.result.now 0 set ≡ chain_value network inner.values.items 0 set =
    ap (λ vs. chain_value network vs 0 set) c.deref.ensures.value in
    let above = c.if-least-self.true in
    omega (arith, ints, below, values, cost, most, limit, least_told, most_told, above)

pub returns : goal.returns
returns c never rest line cheap = absurd (false≢true (sym never))
