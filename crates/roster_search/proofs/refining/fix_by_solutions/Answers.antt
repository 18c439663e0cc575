use Rattle.std.proofs.Common.{w64, ℤ, to_z, of_z, subst}
use Rattle.std.proofs.lemmas.Int.{to_z-of_z}
use Rattle.roster_search_regions.specs.Regions.{IsNarrowed}
use Rattle.roster_search_fixing.specs.Bounds.{CostsAtMost, IsAllAbove}
use Rattle.roster_search_fixing.proofs.Narrowing.{narrowed_then}
use Rattle.roster_search_least.proofs.FindLemmas.{above_part, says_no, says_yes}
use Rattle.roster_search.proofs.refining.fix_by_solutions.Goals as goal

pub returns-then-not-branch : goal.returns-then-not-branch
returns-then-not-branch c =
    let problem = c.args.problem.now in
    let most : ℤ = to_z w64 (of_z w64 c.args.most) in
    let none = says_no _ _ _ c.in_ok-fix_by_solution.ensures c.if-not-branch.true in
    let more = above_part problem c.args.region.now c.loop.region most c.loop.invariant none in
    subst (IsAllAbove problem c.args.region.now) (to_z-of_z w64 c.args.most c.ranges.most) more

pub returns-then-not-branch-2 : goal.returns-then-not-branch-2
returns-then-not-branch-2 c =
    let problem = c.args.problem.now in
    let most : ℤ = to_z w64 (of_z w64 c.args.most) in
    let fixed = says_yes _ _ _ c.in_ok-fix_by_solution.ensures c.if-not-branch.false in
    let left = narrowed_then problem (CostsAtMost problem most) c.args.region.now c.loop.region c.fix_by_solution.new.region c.loop.invariant fixed in
    subst (λ most. IsNarrowed problem (CostsAtMost problem most) c.args.region.now c.fix_by_solution.new.region)
    (to_z-of_z w64 c.args.most c.ranges.most) left

pub loop-preserved : goal.loop-preserved
loop-preserved c =
    let problem = c.args.problem.now in
    let most : ℤ = to_z w64 (of_z w64 c.args.most) in
    let fixed = says_yes _ _ _ c.in_ok-fix_by_solution.ensures c.if-not-branch.false in
    narrowed_then problem (CostsAtMost problem most) c.args.region.now c.loop.region c.fix_by_solution.new.region c.loop.invariant fixed
