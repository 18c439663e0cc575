use Rattle.roster_test_combine.proofs.combined.put_together.Goals as goal

pub combine-requires-clause-settled : goal.combine-requires-clause-settled
combine-requires-clause-settled c =
    c.in_ok-lists.ensures c.args.problem.now c.args.table.now c.requires.settled
