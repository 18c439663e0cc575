use Rattle.std.proofs.Common.{List, Vec, Global, ℕ, map, sym, subst}
use Rattle.std.specs.Arc.{arc_value}
use Rattle.std.proofs.lemmas.List.{length-map}
use Rattle.roster_subtreepool.specs.States.{SettledSpan}
use Rattle.roster_combine_workers.specs.Parts.{IsLeastOfAll}
use Rattle.roster_combine_workers.proofs.PartLemmas.{least_is_best}
use Rattle.roster_combine_workers.proofs.combining.least_agreed.Goals as goal

pub returns : goal.returns
returns c =
    let items : Vec SettledSpan Global → List SettledSpan = λ list. list.items in
    let lists = map items c.args.lists.now in
    let known = arc_value c.in_ok-known.known in
    let best = arc_value c.in_ok-best.best in
    least_is_best c.args.problem.now c.args.table.now lists c.args.closed.now known best c.requires.table c.requires.settled c.requires.agree c.finished.ensures.found c.in_ok-known.ensures.held
    (subst (λ (count : ℕ). IsLeastOfAll lists count known best) (sym (length-map c.args.lists.now items)) c.in_ok-best.ensures)
