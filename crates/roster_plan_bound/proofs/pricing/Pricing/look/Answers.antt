use Rattle.std.proofs.Common.{◌≡◌, subst, ap, ◌∙◌, arith, ℤ, ◌+ℤ◌, ◌≤ℤ◌, w64, to_z, of_z, FitsSigned, rules}
use Rattle.std.proofs.lemmas.Int.{ints, to_z-of_z}
use Rattle.roster_cost.specs.Amounts.{cost_without_pairings}
use Rattle.roster_bases.specs.Bases.{only}
use Rattle.roster_bases.specs.Homes.{EachHomeRoster}
use Rattle.roster_plan_bound.specs.Looks.{IsLook}
use Rattle.roster_plan_bound.specs.Reduced.{price_at, shares_behind}
use Rattle.roster_plan_bound.proofs.GapLemmas.{look_is}
use Rattle.roster_plan_bound.proofs.pricing.Pricing.look.Goals as goal

pub returns-clause-look : goal.returns-clause-look
returns-clause-look g c =
    let problem = c.args.self.now in
    let prices = c.args.prices.now in
    let same = c.self.view_is in
    let leasts : ℤ = c.in_ok-leasts.leasts.sum in
    let terms : ℤ = c.sum_of_terms-terms.result in
    let units : ℤ = c.in_units.result in
    let idle : ℤ = c.cost_without_pairings.result in
    let leasts_within = c.in_ok-leasts.ensures.within in
    let terms_within = c.sum_of_terms-terms.ensures.within in
    let units_within = c.in_units.ensures.within in
    let low = c.cost_without_pairings.ensures.low in
    let high = c.cost_without_pairings.ensures.high in
    let leasts_fits : FitsSigned w64 leasts = search rules in
    let terms_fits : FitsSigned w64 terms = search rules in
    let units_fits : FitsSigned w64 units = search rules in
    let idle_fits : FitsSigned w64 idle = search rules in
    let leasts_told : to_z w64 (of_z w64 leasts) ≡ leasts = to_z-of_z w64 leasts leasts_fits in
    let terms_told : to_z w64 (of_z w64 terms) ≡ terms = to_z-of_z w64 terms terms_fits in
    let units_told : to_z w64 (of_z w64 units) ≡ units = to_z-of_z w64 units units_fits in
    let idle_told : to_z w64 (of_z w64 idle) ≡ idle = to_z-of_z w64 idle idle_fits in
    let sum : ℤ = to_z w64 (of_z w64 leasts) +ℤ to_z w64 (of_z w64 terms) in
    let sum_fits : FitsSigned w64 sum = search rules in
    let sum_told : to_z w64 (of_z w64 sum) ≡ sum = to_z-of_z w64 sum sum_fits in
    let whole : ℤ = to_z w64 (of_z w64 idle) +ℤ to_z w64 (of_z w64 units) in
    let whole_fits : FitsSigned w64 whole = search rules in
    let whole_told : to_z w64 (of_z w64 whole) ≡ whole = to_z-of_z w64 whole whole_fits in
    let below : EachHomeRoster problem (only c.args.base) (λ places. terms ≤ℤ shares_behind problem prices 0 places) =
    subst (λ p. EachHomeRoster p (only c.args.base) (λ places. terms ≤ℤ shares_behind p prices 0 places)) same c.sum_of_terms-terms.ensures.least in
    let idle_is : idle ≡ cost_without_pairings problem =
    c.cost_without_pairings.ensures.value ∙ ap cost_without_pairings same in
    let near = c.in_units.ensures.near in
    let look = look_is problem prices c.args.base leasts terms units c.in_ok-leasts.leasts.each.items
    (λ places roster. c.shares_add_up.ensures problem places)
    (λ places roster. c.priced_shares_add_up.ensures problem (price_at prices) places roster.covers roster.numbers)
    c.in_ok-leasts.ensures.are below
    (λ more least. c.in_units.ensures.least more (omega (arith, ints, least, leasts_told, terms_told, sum_told)))
    (omega (arith, ints, near, leasts_told, terms_told, sum_told)) in
    let bound : cost_without_pairings problem +ℤ units ≡ to_z w64 (of_z w64 whole) =
    omega (arith, ints, idle_is, idle_told, units_told, whole_told) in
    subst (λ z. IsLook problem prices c.args.base z c.in_ok-leasts.leasts.each.items) bound look
