use Rattle.roster_lines_table.proofs.Lists.{not_crowded}
use Rattle.roster_lines_table.proofs.laws.few_are_not_crowded.Goals as goal

pub returns : goal.returns
returns c = not_crowded
