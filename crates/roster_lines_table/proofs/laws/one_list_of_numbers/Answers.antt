use Rattle.roster_lines_table.proofs.Numbers.{AreNumbersOf-one}
use Rattle.roster_lines_table.proofs.laws.one_list_of_numbers.Goals as goal

pub returns : goal.returns
returns c = AreNumbersOf-one
