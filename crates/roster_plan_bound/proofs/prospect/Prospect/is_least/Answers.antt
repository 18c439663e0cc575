use Rattle.std.proofs.Common.{ℕ, List, [], arith, subst, sym}
use Rattle.std.specs.List.Sorted.{IsStrictlyIncreasing}
use Rattle.roster_model.specs.Problem.{home_of}
use Rattle.roster_plan_bound.specs.Prospects.{IsLeastPath}
use Rattle.roster_plan_bound.specs.Reduced.{IsLeastOf}
use Rattle.roster_plan_bound.proofs.ChainLemmas.{AddsFlight}
use Rattle.roster_plan_bound.proofs.ProspectLemmas.{line_above}
use Rattle.roster_plan_bound.proofs.prospect.Prospect.is_least.Goals as goal

-- the law of flight, of this person
adds : (c : goal.After-is_sound) (set : List ℕ) → IsStrictlyIncreasing set
    → AddsFlight c.self.inside.problem.now c.self.inside.person set
adds c set rising =
    let problem = c.self.inside.problem.now in
    let k = c.self.inside.person in
    let days = (home_of problem k).days in
    let whole = c.flight_of_set.ensures problem days k set rising in
    let none = c.flight_of_set.ensures problem days k [] (λ i inside. absurd (omega arith)) in
    omega (arith, whole, none)

pub returns : goal.returns
returns c =
    let inner = c.self.inside in
    let problem = inner.problem.now in
    let k = inner.person in
    let is = c.self.invariant in
    let path : IsLeastPath problem k inner.timeline.now inner.units.items c.args.least =
    subst (λ v. IsLeastPath v.problem v.person v.timeline v.units c.args.least) (sym c.self.view_is) c.requires.path in
    subst (λ v. IsLeastOf v.problem v.prices v.person c.args.least) c.self.view_is (record {
      below = line_above problem inner.prices.now k inner.timeline.now inner.units.items c.args.least
          (λ whole part parts legal. c.part_of_legal_is_legal.ensures problem k whole part c.is_sound.ensures.ordered c.is_sound.ensures.timed parts legal)
          (adds c) is.is_timeline is.are_units path;
      within = c.requires.within;
    })
