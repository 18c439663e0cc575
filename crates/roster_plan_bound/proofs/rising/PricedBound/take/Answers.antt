use Rattle.std.proofs.Common.{◌≡◌, ℕ, ℤ, ap, subst, sym}
use Rattle.roster_model.specs.Problem.{Problem}
use Rattle.roster_plan_bound.specs.Looks.{IsLook}
use Rattle.roster_plan_bound.specs.Reduced.{ArePrices}
use Rattle.roster_plan_bound.proofs.rising.PricedBound.take.Goals as goal

pub invariant_of-self : goal.invariant_of-self
invariant_of-self c =
    let inner = c.self.inside in
    let problem : inner.pricing.now ≡ c.args.self.now.problem = ap (λ v. v.problem) c.self.view_is in
    let base : inner.base ≡ c.args.self.now.base = ap (λ v. v.base) c.self.view_is in
    let prices = c.args.prices.items in
    let leasts = c.args.look.leasts.items in
    let bound : ℤ = c.args.look.bound in
    let of_base : IsLook c.args.self.now.problem prices inner.base bound leasts =
    subst (λ (b : ℕ). IsLook c.args.self.now.problem prices b bound leasts) (sym base) c.requires.look in
    record {
      home = c.self.invariant.home;
      all = c.self.invariant.all;
      priced = subst (λ (p : Problem). ArePrices p prices) (sym problem) c.requires.prices;
      look = subst (λ (p : Problem). IsLook p prices inner.base bound leasts) (sym problem) of_base;
    }
