use Rattle.std.proofs.Common.{◌≡◌, List, [], Vec, Global, length, map, get_or, sym, ap, ◌∙◌, subst, arith}
use Rattle.std.specs.Arc.{arc_value}
use Rattle.std.proofs.lemmas.List.{get_or-map, length-map}
use Rattle.roster_subtreepool.specs.States.{SettledSpan}
use Rattle.roster_combine_workers.specs.Parts.{IsLeastOf}
use Rattle.roster_combine_workers.proofs.PartLemmas.{least_of_all-more}
use Rattle.roster_combine_workers.proofs.combining.least_of.Goals as goal

pub loop-k-preserved : goal.loop-k-preserved
loop-k-preserved c =
    let items : Vec SettledSpan Global → List SettledSpan = λ list. list.items in
    let lists = c.args.lists.now in
    let k = c.loop-k.k in
    let mid = arc_value c.loop-k.best in
    let new = arc_value c.in_ok-best.best in
    let same : c.deref.result.now ≡ get_or (map items lists) k [] =
    c.deref.ensures.value ∙ ap items c.index-lists-k.is
    ∙ sym (get_or-map items lists k c.index-lists-k.result [] c.loop-k-test.true) in
    least_of_all-more (map items lists) k (arc_value c.args.known) mid new
    (omega (arith, c.loop-k-test.true, length-map lists items)) c.loop-k.invariant
    (subst (λ (parts : List SettledSpan). IsLeastOf parts (length parts) mid new) same c.in_ok-best.ensures)
