use Rattle.std.proofs.Common.{◌≡◌, ℤ, length, subst, arith}
use Rattle.roster_bases.specs.Bases.{persons_of}
use Rattle.roster_plan_bound.specs.Looks.{IsLook}
use Rattle.roster_plan_bound.specs.Reduced.{ArePrices}
use Rattle.roster_plan_bound.proofs.rising.PricedBound.unpriced.Goals as goal

pub invariant_of-result : goal.invariant_of-result
invariant_of-result g c =
    let problem = c.args.pricing.now in
    let base = c.args.base in
    let same = c.problem-problem.ensures in
    let bound : ℤ = c.in_ok-priced.priced.bound in
    let prices = c.in_ok-prices.prices.items in
    let leasts = c.in_ok-priced.priced.leasts.items in
    let own =
    subst (λ ps. IsLook problem ps base bound leasts) c.deref-2.ensures.value c.in_ok-priced.ensures.look in
    let all : c.in_ok-seen.seen.len ≡ length c.in_ok-persons.persons.items =
    omega (arith, c.in_ok-seen.ensures, c.len.ensures, c.in_ok-persons.persons.ok.0) in
    record {
      home = subst (λ p. c.in_ok-persons.persons.items ≡ persons_of p base) same c.in_ok-persons.ensures;
      all = all;
      priced = subst (λ p. ArePrices p prices) same c.in_ok-prices.ensures;
      look = own;
    }
