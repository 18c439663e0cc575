use Rattle.std.proofs.Common.{rules, ◌≡◌, w64, FitsSigned, to_z, of_z, subst, ap, ◌∙◌}
use Rattle.std.proofs.lemmas.Int.{to_z-of_z}
use Rattle.std.proofs.lemmas.Result.{on_ok_weaker}
use Rattle.roster_model.specs.Rosters.{Key}
use Rattle.roster_search_regions.specs.Regions.{IsNarrowed}
use Rattle.roster_search_fixing.specs.Bounds.{CostsAtMost, IsAllAbove}
use Rattle.roster_search_least.proofs.FindLemmas.{says_no, says_yes, settled_below, settled_in_whole}
use Rattle.roster_search_least.proofs.least.first_of_all.Goals as goal

pub returns-then-not-branch-clause-settled : goal.returns-then-not-branch-clause-settled
returns-then-not-branch-clause-settled g c =
    let problem = c.args.problem.now in
    let key : Key = c.args.roster.now in
    let fits : FitsSigned w64 c.roster.inside.cost = search rules in
    let cost : to_z w64 (of_z w64 c.roster.inside.cost) ≡ key.cost =
    to_z-of_z w64 c.roster.inside.cost fits ∙ ap (λ (k : Key). k.cost) c.roster.view_is in
    let above = says_no _ _ _ c.in_ok-tighten.ensures c.if-not-branch.true in
    settled_below problem c.args.region.now key c.requires.held
    (subst (IsAllAbove problem c.args.region.now) cost above)

pub first-requires-clause-least : goal.first-requires-clause-least
first-requires-clause-least g c others legal inside =
    let part = says_yes _ _ _ c.in_ok-tighten.ensures c.if-not-branch.false in
    c.requires.least others legal (part.inside others inside)

pub returns-clause-settled : goal.returns-clause-settled
returns-clause-settled g c =
    let problem = c.args.problem.now in
    let key : Key = c.args.roster.now in
    let fits : FitsSigned w64 c.roster.inside.cost = search rules in
    let cost : to_z w64 (of_z w64 c.roster.inside.cost) ≡ key.cost =
    to_z-of_z w64 c.roster.inside.cost fits ∙ ap (λ (k : Key). k.cost) c.roster.view_is in
    let part = says_yes _ _ _ c.in_ok-tighten.ensures c.if-not-branch.false in
    on_ok_weaker c.first.result
    (settled_in_whole problem c.args.region.now c.tighten.new.region key c.first.new.roster
    (subst (λ most. IsNarrowed problem (CostsAtMost problem most) c.args.region.now c.tighten.new.region) cost part))
    c.first.ensures.settled
