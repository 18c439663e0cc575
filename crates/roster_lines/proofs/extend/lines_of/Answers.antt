use Rattle.roster_lines.proofs.WantedLemmas.{AreLines-wanted, IsFaultOf-within}
use Rattle.roster_lines.proofs.extend.lines_of.Goals as goal

pub returns-clause-lines : goal.returns-clause-lines
returns-clause-lines c =
    AreLines-wanted c.args.problem.now c.args.k c.wanted_lines.result c.wanted_lines.ensures.lines

pub returns-clause-fault : goal.returns-clause-fault
returns-clause-fault c =
    IsFaultOf-within c.args.problem.now c.args.k c.wanted_lines.result c.wanted_lines.ensures.fault
