use Rattle.std.proofs.Common.{List, ℤ}
use Rattle.roster_search_least.specs.Least.{IsCheapestWithin}
use Rattle.roster_search_regions.specs.Regions.{IsIn, Region}
use Rattle.roster_search_least.proofs.FindLemmas.{if_ok}
use Rattle.roster_search.proofs.OpenLemmas.{one_part, parts_left}
use Rattle.roster_search_threads.proofs.crew.CrewFinder.find.Goals as goal

pub explore_together-requires : goal.explore_together-requires
explore_together-requires g c = (
  c.requires.may_find,
  one_part c.args.problem.now c.args.region c.in_ok-nodes.nodes.items c.requires.region c.in_ok-nodes.ensures,
)

pub end_alone-requires : goal.end_alone-requires
end_alone-requires g c =
    let problem = c.args.problem.now in
    let nodes : List Region = c.in_ok-nodes.nodes.items in
    let explored = c.in_ok-explored.ensures in
    let parts = one_part problem c.args.region nodes c.requires.region c.in_ok-nodes.ensures in
    parts_left problem c.args.region nodes c.in_ok-explored.explored.left.items _ parts explored.still

pub returns-clause-found : goal.returns-clause-found
returns-clause-found g c =
    let problem = c.args.problem.now in
    let region : Region = c.args.region in
    let Here = IsIn problem region in
    let most : ℤ = c.args.budget.most in
    let enough : ℤ = c.args.budget.enough in
    let nodes : List Region = c.in_ok-nodes.nodes.items in
    if_ok c.end_alone.result _ (IsCheapestWithin problem Here most enough) c.end_alone.ensures (λ found is. is nodes c.in_ok-nodes.ensures c.in_ok-explored.ensures)
