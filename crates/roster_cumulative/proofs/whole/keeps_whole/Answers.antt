use Rattle.std.proofs.Common.{leb-true, arith}
use Rattle.roster_cumulative.proofs.WholeDuties.{keeps-whole}
use Rattle.roster_cumulative.proofs.whole.keeps_whole.Goals as goal

pub returns-clause-runs : goal.returns-clause-runs
returns-clause-runs c = λ keeps.
    let few = leb-true c.whole_of_list.result c.args.most keeps in
    keeps-whole c.args.measure c.args.days.now c.days.ensures.table c.args.list.now c.args.n c.args.most c.requires (λ from to. omega (arith, few, c.whole_of_list.ensures.most from to))
