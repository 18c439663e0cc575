-- Why no roster is found.
use Rattle.roster_model.specs.Lines.{IsFirstCrowded}
use Rattle.roster_model.specs.Problem.{Problem}
use Rattle.roster_lines.specs.declared.table.TableFault.{TableFault}
use Rattle.roster_lines.specs.declared.table.TableFault.TheVariants as tables
use Rattle.roster_combine.specs.declared.search.SolveFault.{SolveFault}
use Rattle.roster_combine.specs.declared.search.SolveFault.TheVariants.{TooMany, Memory}

abbrev pub IsSolveFaultOf : Problem → SolveFault → Type 0
IsSolveFaultOf problem (TooMany k) = IsFirstCrowded problem k
IsSolveFaultOf problem Memory = Unit {0}

-- if there is no table of lines, there is no roster for the same reason
abbrev pub fault_of_table : TableFault → SolveFault
fault_of_table (tables.TooMany k) = TooMany k
fault_of_table tables.Memory = Memory
