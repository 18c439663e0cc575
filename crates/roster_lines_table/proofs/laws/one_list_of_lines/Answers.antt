use Rattle.roster_lines_table.proofs.Lists.{AreLines-one}
use Rattle.roster_lines_table.proofs.laws.one_list_of_lines.Goals as goal

pub returns : goal.returns
returns c = AreLines-one
