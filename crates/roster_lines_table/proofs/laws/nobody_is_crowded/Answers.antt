use Rattle.roster_lines_table.proofs.TableLemmas.{nobody_crowded}
use Rattle.roster_lines_table.proofs.laws.nobody_is_crowded.Goals as goal

pub returns : goal.returns
returns c = nobody_crowded
