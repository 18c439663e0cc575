use Rattle.roster_lines.proofs.extend.wanted_lines.Goals as goal

pub pairs_of-requires-clause-parts : goal.pairs_of-requires-clause-parts
pairs_of-requires-clause-parts g c = c.parts_are_legal.ensures c.args.k
