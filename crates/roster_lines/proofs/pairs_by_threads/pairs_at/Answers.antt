use Rattle.roster_lines.proofs.pairs_by_threads.pairs_at.Goals as goal

pub pairs_of-requires-clause-parts : goal.pairs_of-requires-clause-parts
pairs_of-requires-clause-parts c = c.parts_are_legal.ensures c.args.k
