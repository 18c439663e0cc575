use Rattle.roster_lines_table.proofs.Numbers.{AreNumbersOf-exist}
use Rattle.roster_lines_table.proofs.laws.has_numbers.Goals as goal

pub returns : goal.returns
returns c = AreNumbersOf-exist
