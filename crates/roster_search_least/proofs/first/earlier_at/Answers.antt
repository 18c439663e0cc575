use Rattle.std.proofs.Common.{rules, ◌≡◌, ◌<◌, w64, ℕ, ℤ, List, FitsSigned, to_z, of_z, get_or, arith, subst, sym, refl, ap, ◌∙◌}
use Rattle.std.proofs.lemmas.Int.{to_z-of_z}
use Rattle.roster_model.specs.Rosters.{Key}
use Rattle.roster_model.specs.Settled.{IsFoundWithin}
use Rattle.roster_search_regions.specs.Regions.{IsIn, IsRegion}
use Rattle.roster_search_least.specs.Firsts.{HasEarlier}
use Rattle.roster_search_least.proofs.EarlierLemmas.{found_next, settled_at_first, settled_by_none}
use Rattle.roster_search_least.proofs.first.earlier_at.Goals as goal

pub loop-number-init : goal.loop-number-init
loop-number-init g c = record {
  same = refl;
  most = c.in_ok-found.ensures.number;
  found = c.in_ok-found.ensures.found;
  goes_on = c.first_found.ensures.goes_on;
}

pub with_earlier-requires-clause-region : goal.with_earlier-requires-clause-region
with_earlier-requires-clause-region g c =
    subst (IsRegion c.args.problem.now) (sym c.loop-number.invariant.same) c.requires.agree.is_region

pub with_earlier-requires-clause-number : goal.with_earlier-requires-clause-number
with_earlier-requires-clause-number g c = c.loop-number.invariant.most

pub loop-number-smaller : goal.loop-number-smaller
loop-number-smaller g c =
    let problem = c.args.problem.now in
    let key : Key = c.args.roster.now in
    let most : ℤ = to_z w64 (of_z w64 c.roster.inside.cost) in
    let Here : List ℕ → Type 0 =
    λ places. IsIn problem c.loop-number.region places × HasEarlier c.loop-number.number c.args.p places in
    let fits : FitsSigned w64 c.roster.inside.cost = search rules in
    let cost : most ≡ key.cost = to_z-of_z w64 c.roster.inside.cost fits ∙ ap (λ (k : Key). k.cost) c.roster.view_is in
    let found = subst (λ found. IsFoundWithin problem Here most found) c.in-Some.is c.in_ok-earlier.ensures.found in
    let slice : c.as_slice.result.now ≡ c.in-Some.earlier.places =
    c.as_slice.ensures ∙ ap (λ (k : Key). k.places) c.earlier.view_is in
    (found_next problem c.args.p c.loop-number.number c.args.region.now c.loop-number.region key c.in-Some.earlier c.loop-number.first most c.as_slice.result.now c.loop-number.invariant.same cost c.requires.pairing slice c.loop-number.invariant.found found).1

pub loop-number-preserved : goal.loop-number-preserved
loop-number-preserved g c =
    let problem = c.args.problem.now in
    let key : Key = c.args.roster.now in
    let most : ℤ = to_z w64 (of_z w64 c.roster.inside.cost) in
    let Here : List ℕ → Type 0 =
    λ places. IsIn problem c.loop-number.region places × HasEarlier c.loop-number.number c.args.p places in
    let fits : FitsSigned w64 c.roster.inside.cost = search rules in
    let cost : most ≡ key.cost = to_z-of_z w64 c.roster.inside.cost fits ∙ ap (λ (k : Key). k.cost) c.roster.view_is in
    let found = subst (λ found. IsFoundWithin problem Here most found) c.in-Some.is c.in_ok-earlier.ensures.found in
    let slice : c.as_slice.result.now ≡ c.in-Some.earlier.places =
    c.as_slice.ensures ∙ ap (λ (k : Key). k.places) c.earlier.view_is in
    let next =
    found_next problem c.args.p c.loop-number.number c.args.region.now c.loop-number.region key c.in-Some.earlier c.loop-number.first most c.as_slice.result.now c.loop-number.invariant.same cost c.requires.pairing slice c.loop-number.invariant.found found in
    let less : get_or c.as_slice.result.now c.args.p 0 < c.loop-number.number = next.1 in
    record {
      same = c.loop-number.invariant.same;
      most = omega (arith, less, c.loop-number.invariant.most);
      found = next.0;
      goes_on = g.met.F.Finder.follows _ _ _ c.loop-number.invariant.goes_on c.with_earlier.ensures.goes_on;
    }

pub leave_number-requires-clause-region : goal.leave_number-requires-clause-region
leave_number-requires-clause-region g c =
    subst (IsRegion c.args.problem.now) (sym c.loop-number.invariant.same) c.requires.agree.is_region

pub leave_number-requires-clause-number : goal.leave_number-requires-clause-number
leave_number-requires-clause-number g c = c.loop-number.invariant.most

pub leave_number-requires-2-clause-region : goal.leave_number-requires-2-clause-region
leave_number-requires-2-clause-region g c =
    subst (IsRegion c.args.problem.now) (sym c.loop-number.invariant.same) c.requires.agree.is_region

pub returns-in-None-clause-settled : goal.returns-in-None-clause-settled
returns-in-None-clause-settled g c =
    let problem = c.args.problem.now in
    let key : Key = c.args.roster.now in
    let most : ℤ = to_z w64 (of_z w64 c.roster.inside.cost) in
    let Here : List ℕ → Type 0 =
    λ places. IsIn problem c.loop-number.region places × HasEarlier c.loop-number.number c.args.p places in
    let fits : FitsSigned w64 c.roster.inside.cost = search rules in
    let cost : most ≡ key.cost = to_z-of_z w64 c.roster.inside.cost fits ∙ ap (λ (k : Key). k.cost) c.roster.view_is in
    let none = subst (λ found. IsFoundWithin problem Here most found) c.in-None.is c.in_ok-earlier.ensures.found in
    let left = c.in_ok-leave_number-in-None.ensures in
    settled_by_none problem c.args.p c.loop-number.number c.args.region.now c.loop-number.region c.leave_number.new.region key c.loop-number.first most c.loop-number.invariant.same cost c.requires.agree none left.narrowed left.wholly c.loop-number.invariant.found c.requires.pairing

pub returns-clause-settled : goal.returns-clause-settled
returns-clause-settled g c =
    let zero : c.loop-number.number ≡ 0 = omega (arith, c.loop-number-test.false) in
    let left = c.in_ok-leave_number.ensures in
    settled_at_first c.args.problem.now c.args.p c.loop-number.number c.args.region.now c.loop-number.region c.leave_number-2.new.region c.args.roster.now c.loop-number.first c.loop-number.invariant.same zero c.requires.agree left.narrowed left.wholly c.loop-number.invariant.found c.requires.pairing
