use Rattle.std.proofs.lemmas.List.{map_more}
use Rattle.roster_desk_carry_judged.specs.Months as spec
use Rattle.roster_desk_carry_judged.proofs.ledger.by_ledger.Goals as goal

pub loop-k-preserved : goal.loop-k-preserved
loop-k-preserved c =
    let persons = c.persons-persons.result.now in
    let k = c.loop-k.k in
    let flown = spec.by_ledger c.period-this.result c.args.ledger.now in
    let more = map_more flown persons k c.index-persons-k.result c.loop-k-test.true in
    let items = c.in_ok-push.ensures.items in
    let here = c.in-Some.ensures in
    let is = c.index-persons-k.is in
    cc (more, items, here, is, c.loop-k.invariant)
