use Rattle.roster_combine.proofs.search.solve.Goals as goal

pub returns-clause-few : goal.returns-clause-few
returns-clause-few g c k person =
    c.nobody_is_crowded.ensures c.args.problem.now c.in_ok-table.table k c.in_ok-table.ensures.table person
