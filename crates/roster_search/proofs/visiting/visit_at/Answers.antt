use Rattle.std.proofs.Common.{w64, ℤ, to_z, of_z, subst}
use Rattle.std.proofs.lemmas.Int.{to_z-of_z}
use Rattle.roster_model.specs.Settled.{CostsMore}
use Rattle.roster_search_regions.specs.Regions.{IsIn}
use Rattle.roster_search.specs.Open.{IsVisited}
use Rattle.roster_search.specs.Refined.{IsRefined}
use Rattle.roster_search.proofs.OpenLemmas.{visited_in_part}
use Rattle.roster_search.proofs.visiting.visit_at.Goals as goal

pub returns-in-Nothing : goal.returns-in-Nothing
returns-in-Nothing c =
    let problem = c.args.problem.now in
    let most : ℤ = to_z w64 (of_z w64 c.args.most) in
    let refined = subst (λ region. IsRefined problem most region c.refine.new.region c.in_ok-refined.refined) c.node.view_is c.in_ok-refined.ensures in
    let above = subst (IsRefined problem most c.args.node c.refine.new.region) c.in-Nothing.is refined in
    subst (CostsMore problem (IsIn problem c.args.node)) (to_z-of_z w64 c.args.most c.ranges.most)
    (λ others legal inside. above others inside)

pub returns-in_ok-part-in-Part : goal.returns-in_ok-part-in-Part
returns-in_ok-part-in-Part c =
    let problem = c.args.problem.now in
    let most : ℤ = to_z w64 (of_z w64 c.args.most) in
    let refined = subst (λ region. IsRefined problem most region c.refine.new.region c.in_ok-refined.refined) c.node.view_is c.in_ok-refined.ensures in
    let left = subst (IsRefined problem most c.args.node c.refine.new.region) c.in-Part.is refined in
    subst (λ most. IsVisited problem c.args.node most c.in_ok-part-in-Part.field-0)
    (to_z-of_z w64 c.args.most c.ranges.most)
    (visited_in_part problem most c.args.node c.refine.new.region c.in_ok-part-in-Part.field-0 left c.in_ok-part-in-Part.ensures)
