use Rattle.roster_combine.proofs.replaying.replay.Goals as goal

pub returns-clause-few : goal.returns-clause-few
returns-clause-few c k person =
    c.nobody_is_crowded.ensures c.args.problem.now c.in_ok-table.table k c.in_ok-table.ensures.table person
