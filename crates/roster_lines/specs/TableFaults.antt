-- Why there is no table.
use Rattle.std.specs.Prelude.{ℕ, ◌<◌, length}
use Rattle.roster_model.specs.Lines.{IsFirstCrowded}
use Rattle.roster_model.specs.Problem.{Problem}
use Rattle.roster_lines.specs.declared.table.TableFault.{TableFault}
use Rattle.roster_lines.specs.declared.table.TableFault.TheVariants.{TooMany, Memory}
use Rattle.roster_lines.specs.SomeLines.{HasMoreLines}

abbrev pub IsTableFaultOf : Problem → TableFault → Type 0
IsTableFaultOf problem (TooMany k) = IsFirstCrowded problem k
IsTableFaultOf problem Memory = Unit {0}

-- and why there is none with no more than so many lines of each person
abbrev pub IsTableFaultWithin : Problem → ℕ → TableFault → Type 0
IsTableFaultWithin problem most (TooMany k) = (k < length problem.persons) × HasMoreLines problem k most
IsTableFaultWithin problem most Memory = Unit {0}
