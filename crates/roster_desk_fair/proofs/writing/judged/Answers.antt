use Rattle.roster_desk_fair.proofs.Lists.{fair-targets}
use Rattle.roster_desk_fair.proofs.writing.judged.Goals as goal

pub returns-then-has_targets-clause-fair : goal.returns-then-has_targets-clause-fair
returns-then-has_targets-clause-fair c =
    let given = c.has_targets.ensures c.if-has_targets.true in
    rw (← c.requires.read.problem)
    (fair-targets c.args.book.now c.args.read.problem c.args.fair.now c.requires.targets given.0 given.1)
