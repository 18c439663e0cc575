-- Overlap (this project's own): a person is on one duty at a time.
use Rattle.std.specs.Prelude.{◌≡◌, List, AllPairs}
use Rattle.roster_model.specs.Calendar.{common}
use Rattle.roster_model.specs.records.Duty.{Duty}

-- No two duties share a minute.
abbrev pub NoOverlap : List Duty → Type 0
NoOverlap list = AllPairs (λ a b. common a.report a.release b.report b.release ≡ 0) list
