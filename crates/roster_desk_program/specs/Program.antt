-- What the program tells standard error, and how it ends.
use Rattle.std.specs.Prelude.{◌≡◌, ⊤, ℕ, List, Option}
use Rattle.roster_watched.specs.declared.watched.Watched.{Watched}
use Rattle.roster_report.specs.Writing.{TellsLine}
use Rattle.roster_desk_program.specs.Ending.{ending_number, ending_text}
use Rattle.roster_desk_program.specs.declared.ending.Ending.{Ending}
use Rattle.roster_desk_program.specs.declared.ending.Ending.TheVariants as endings

-- it was told how the plan ended; of a report that is refused nothing is said
abbrev pub TellsEnding : {D : Type 0} → (D → Option (List ℕ)) → Ending → Watched D → Watched D → Type 0
TellsEnding contents (endings.StartRefused line wrong) old new = ⊤
TellsEnding contents ending old new = TellsLine contents (ending_text ending) old new

-- the exit status is that of an ending of which it holds
abbrev pub EndsAs : ℕ → (Ending → Type 0) → Type 0
EndsAs status Says = (ending : Ending) × (status ≡ ending_number ending) × Says ending
