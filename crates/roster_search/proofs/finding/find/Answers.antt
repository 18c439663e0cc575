use Rattle.std.proofs.Common.{List, Option, subst}
use Rattle.roster_model.specs.Rosters.{Key}
use Rattle.roster_search_regions.specs.Regions.{Region}
use Rattle.roster_search.specs.Open.{IsOver}
use Rattle.roster_search.proofs.OpenLemmas.{one_is_over, one_part}
use Rattle.roster_search.proofs.finding.find.Goals as goal

pub explore-requires : goal.explore-requires
explore-requires g c =
    one_part c.args.problem.now c.args.region c.in_ok-nodes.nodes.items c.requires.region c.in_ok-nodes.ensures

pub returns-clause-found : goal.returns-clause-found
returns-clause-found g c =
    let budget = c.args.budget in
    let best : Option Key = c.in_ok-best.field-0.best in
    let left : List Region = c.in_ok-best.field-0.left.items in
    let over : IsOver budget.enough best left = subst (IsOver budget.enough best) c.deref.ensures.value (c.limit.ensures.over c.in-None.is) in
    one_is_over c.args.problem.now c.args.region c.in_ok-nodes.nodes.items left budget.most budget.enough best c.in_ok-nodes.ensures over c.in_ok-best.ensures.explored
