-- The book of the tables of a folder.
use Rattle.std.specs.Prelude.{◌≡◌, ◌⊎◌, ◌++◌, ⊤, ℕ, List, IsSomeAnd, None, Option, Some, true}
use Rattle.std.specs.Borrow.{Bor}
use Rattle.roster_model.specs.Answer.{records_of}
use Rattle.roster_model.specs.Problem.{problem_of}
use Rattle.roster_watched.specs.declared.watched.Watched.{Watched}
use Rattle.roster_desk_arguments.specs.declared.line.BookLine.{BookLine}
use Rattle.roster_desk_given.specs.declared.status.Status.{Status}
use Rattle.roster_desk_given.specs.declared.status.Status.TheVariants as statuses
use Rattle.roster_desk_answers.specs.Ending.{Ends, Nothing}
use Rattle.roster_desk_answers.specs.Pages.{IsFaultless}
use Rattle.roster_desk_answers.specs.Told.{IsRosterOf}
use Rattle.roster_desk_answers.specs.declared.untold.Untold.{Untold}
use Rattle.roster_desk_answers.specs.declared.untold.Untold.TheVariants as untolds

-- ---- the book

-- the report gives a roster of the book
pub record HasRoster (book report : List ℕ) : Type 0 where
  pub places : List ℕ
  pub roster : IsRosterOf true (problem_of (records_of book)) report places

-- so it is if the line names a report
abbrev pub StartsWith : Option (Bor (List ℕ)) → List ℕ → List ℕ → Type 0
StartsWith None book report = ⊤
StartsWith (Some path) book report = HasRoster book report

-- A book without a fault, and behind it records that the line adds, with which it has none. If the line names a report,
-- that gives a roster of it.
pub record IsBook (line : BookLine) (report text : List ℕ) : Type 0 where
  pub book : List ℕ
  pub faultless : IsFaultless book
  pub added : List ℕ
  pub starts : StartsWith line.start book report
  pub all : text ≡ book ++ added
  pub good : IsFaultless text

-- ---- how it ends

-- something is wrong with the tables, which is told, and nothing was written
pub record AreWrong {W : Type 0} (old new : Watched W) (status : Status) : Type 0 where
  pub refused : status ≡ statuses.Refused
  pub same : new ≡ old

-- so it is, or the book was written
abbrev pub IsMade : {W : Type 0} → (W → Option (List ℕ)) → BookLine → List ℕ → Watched W → Watched W → Status → Type 0
IsMade contents line report old new status =
    Ends contents (IsBook line report) Nothing old new status ⊎ AreWrong old new status

-- the line names no month, or the report is refused, or the book wouldn't ask for what is meant
abbrev pub IsBookUnmade : Option (Bor (List ℕ)) → Untold → Type 0
IsBookUnmade start (untolds.Unknown unknown) = ⊥
IsBookUnmade start (untolds.Report path fault) = IsSomeAnd start (λ own. path.now ≡ own.now)
IsBookUnmade start (untolds.Words sentence) = ⊤
IsBookUnmade start (untolds.Faulty text) = ⊥
IsBookUnmade start untolds.Unlike = ⊤
IsBookUnmade start (untolds.Names text) = ⊥
IsBookUnmade start untolds.Memory = ⊤
