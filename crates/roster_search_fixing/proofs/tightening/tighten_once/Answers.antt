use Rattle.std.proofs.Common.{◌≡◌, true, w64, to_z, of_z, subst, rules}
use Rattle.std.specs.Prelude.{◌<ℤ◌, MatchOption}
use Rattle.std.proofs.lemmas.Int.{to_z-of_z}
use Rattle.roster_model.specs.Costs.{cost_of}
use Rattle.std.proofs.lemmas.Option.{MatchOption-at_some}
use Rattle.roster_search_regions.specs.Regions.{IsNarrowed}
use Rattle.roster_search_fixing.specs.Bounds.{CostsAtMost, IsAllAbove}
use Rattle.roster_search_fixing.specs.Propagation.{Anything, IsEmpty}
use Rattle.roster_search_fixing.specs.Tightening.{IsUse}
use Rattle.roster_search_fixing.proofs.Fixing.{match_true, use_within_part}
use Rattle.roster_search_fixing.proofs.Narrowing.{narrowed_by_less, narrowed_then}
use Rattle.roster_search_fixing.proofs.tightening.tighten_once.Goals as goal

pub fix_pairings-requires-clause-bounds : goal.fix_pairings-requires-clause-bounds
fix_pairings-requires-clause-bounds c =
    let problem = c.args.problem.now in
    let most = to_z w64 (of_z w64 c.args.most) in
    let paid = to_z w64 (of_z w64 c.args.paid) in
    use_within_part problem c.propagate.new.region c.fix_lines.new.region c.args.prices.now paid c.in-Some-2.bounds most c.in_ok-fix_lines-in-Some-2.ensures
    (MatchOption-at_some (IsAllAbove problem c.propagate.new.region most) (λ bounds. IsUse problem c.propagate.new.region c.args.prices.now paid bounds most) c.in-Some-2.bounds c.in-Some-2.is c.in_ok-bounds_of.ensures)

pub fix_lines-requires-clause-bounds : goal.fix_lines-requires-clause-bounds
fix_lines-requires-clause-bounds c =
    let problem = c.args.problem.now in
    let most = to_z w64 (of_z w64 c.args.most) in
    let paid = to_z w64 (of_z w64 c.args.paid) in (
      paid,
      MatchOption-at_some (IsAllAbove problem c.propagate.new.region most) (λ bounds. IsUse problem c.propagate.new.region c.args.prices.now paid bounds most) c.in-Some-2.bounds c.in-Some-2.is c.in_ok-bounds_of.ensures,
    )

pub returns-in_ok-fix_lines-in-Some-2 : goal.returns-in_ok-fix_lines-in-Some-2
returns-in_ok-fix_lines-in-Some-2 c =
    let problem = c.args.problem.now in
    let Costs = CostsAtMost problem c.args.most in
    let most = to_z-of_z w64 c.args.most c.ranges.most in
    let yes : c.in_ok-propagate.field-0 ≡ true = search rules in
    let first =
    match_true c.in_ok-propagate.field-0
    (IsNarrowed problem Anything c.args.region.now c.propagate.new.region)
    (IsEmpty problem c.args.region.now) yes c.in_ok-propagate.ensures in
    let lines = subst (λ m. IsNarrowed problem (CostsAtMost problem m) c.propagate.new.region c.fix_lines.new.region) most c.in_ok-fix_lines-in-Some-2.ensures in
    let pairings = subst (λ m. IsNarrowed problem (CostsAtMost problem m) c.fix_lines.new.region c.fix_pairings.new.region) most c.fix_pairings.ensures in
    narrowed_then problem Costs c.args.region.now c.propagate.new.region c.fix_pairings.new.region
    (narrowed_by_less problem Costs c.args.region.now c.propagate.new.region first)
    (narrowed_then problem Costs c.propagate.new.region c.fix_lines.new.region c.fix_pairings.new.region lines pairings)

pub returns-in-None : goal.returns-in-None
returns-in-None c places there =
    let problem = c.args.problem.now in
    let yes : c.in_ok-propagate.field-0 ≡ true = search rules in
    let first =
    match_true c.in_ok-propagate.field-0
    (IsNarrowed problem Anything c.args.region.now c.propagate.new.region)
    (IsEmpty problem c.args.region.now) yes c.in_ok-propagate.ensures in
    let above = subst (λ found. MatchOption found (IsAllAbove problem c.propagate.new.region (to_z w64 (of_z w64 c.args.most))) (λ bounds. IsUse problem c.propagate.new.region c.args.prices.now (to_z w64 (of_z w64 c.args.paid)) bounds (to_z w64 (of_z w64 c.args.most)))) c.in-None.is c.in_ok-bounds_of.ensures in
    subst (λ most. most <ℤ cost_of problem places) (to_z-of_z w64 c.args.most c.ranges.most)
    (above places (first.kept places there tt))
