use Rattle.std.proofs.Common.{w64, ℤ, Option, IfSome, to_z, of_z, subst}
use Rattle.std.proofs.lemmas.Int.{to_z-of_z}
use Rattle.roster_model.specs.Rosters.{Key}
use Rattle.roster_model.specs.Settled.{IsWithinCost}
use Rattle.roster_search_regions.specs.Regions.{IsIn, IsNarrowed}
use Rattle.roster_search_fixing.specs.Bounds.{CostsAtMost, IsAllAbove}
use Rattle.roster_search_fixing.proofs.Narrowing.{narrowed_then}
use Rattle.roster_search_least.proofs.FindLemmas.{above_part, says_no, says_yes, within_part}
use Rattle.roster_search.proofs.rising.raised.Goals as goal

pub returns-then-not-branch : goal.returns-then-not-branch
returns-then-not-branch c =
    let problem = c.args.problem.now in
    let none = says_no _ _ _ c.in_ok-fix_first.ensures c.if-not-branch.true in
    subst (IsAllAbove problem c.args.region.now) (to_z-of_z w64 c.args.most c.ranges.most) none

pub returns-then-not-branch-2 : goal.returns-then-not-branch-2
returns-then-not-branch-2 c =
    let problem = c.args.problem.now in
    let most : ℤ = to_z w64 (of_z w64 c.args.most) in
    let none = says_no _ _ _ c.in_ok-fix.ensures c.if-not-branch-2.true in
    let more = above_part problem c.args.region.now c.loop-step.region most c.loop-step.invariant none in
    subst (IsAllAbove problem c.args.region.now) (to_z-of_z w64 c.args.most c.ranges.most) more

pub returns-in-Some : goal.returns-in-Some
returns-in-Some c =
    let problem = c.args.problem.now in
    let most : ℤ = to_z w64 (of_z w64 c.args.most) in
    let fixed = says_yes _ _ _ c.in_ok-fix.ensures c.if-not-branch-2.false in
    let left = narrowed_then problem (CostsAtMost problem most) c.args.region.now c.loop-step.region c.fix.new.region c.loop-step.invariant fixed in
    let found = subst (λ (found : Option Key). IfSome found (IsWithinCost problem (IsIn problem c.fix.new.region) most)) c.in-Some.is c.in_ok-roster.ensures in
    let within =
    within_part problem
    (CostsAtMost problem most) c.args.region.now c.fix.new.region most c.in-Some.roster left found in
    subst (λ most. IsWithinCost problem (IsIn problem c.args.region.now) most c.in-Some.roster × IsNarrowed problem (CostsAtMost problem most) c.args.region.now c.fix.new.region)
    (to_z-of_z w64 c.args.most c.ranges.most) (within, left)

pub loop-step-preserved : goal.loop-step-preserved
loop-step-preserved c =
    let problem = c.args.problem.now in
    let most : ℤ = to_z w64 (of_z w64 c.args.most) in
    let fixed = says_yes _ _ _ c.in_ok-fix.ensures c.if-not-branch-2.false in
    narrowed_then problem (CostsAtMost problem most) c.args.region.now c.loop-step.region c.fix.new.region c.loop-step.invariant fixed

pub returns-then-not-branch-3 : goal.returns-then-not-branch-3
returns-then-not-branch-3 c =
    let problem = c.args.problem.now in
    let most : ℤ = to_z w64 (of_z w64 c.args.most) in
    let none = says_no _ _ _ c.in_ok-tighten.ensures c.if-not-branch-3.true in
    let more = above_part problem c.args.region.now c.loop-step.region most c.loop-step.invariant none in
    subst (IsAllAbove problem c.args.region.now) (to_z-of_z w64 c.args.most c.ranges.most) more

pub returns : goal.returns
returns c =
    let problem = c.args.problem.now in
    let most : ℤ = to_z w64 (of_z w64 c.args.most) in
    let fixed = says_yes _ _ _ c.in_ok-tighten.ensures c.if-not-branch-3.false in
    let left = narrowed_then problem (CostsAtMost problem most) c.args.region.now c.loop-step.region c.tighten.new.region c.loop-step.invariant fixed in
    subst (λ most. IsNarrowed problem (CostsAtMost problem most) c.args.region.now c.tighten.new.region)
    (to_z-of_z w64 c.args.most c.ranges.most) left
