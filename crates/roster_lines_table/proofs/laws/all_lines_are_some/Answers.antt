use Rattle.roster_lines_table.proofs.Lists.{AreListed-all}
use Rattle.roster_lines_table.proofs.laws.all_lines_are_some.Goals as goal

pub returns : goal.returns
returns c = AreListed-all
