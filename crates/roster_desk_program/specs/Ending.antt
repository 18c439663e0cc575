-- How a plan ends: the exit status, and what is said of what was read and written.
use Rattle.std.specs.Prelude.{◌≡◌, ◌↔◌, ◌⊎◌, ◌≤◌, ◌++◌, ⊤, ℕ, Bool, List, Option, Some, None, codes, length, true, IfSome, IsSomeAnd, option_map}
use Rattle.roster_model.specs.Answer.{IsRefusal}
use Rattle.roster_model.specs.Record.{Check}
use Rattle.roster_book.specs.Reading.{OfTold}
use Rattle.roster_watched.specs.Watch.{inner_of, has_failed, is_flushed}
use Rattle.roster_watched.specs.declared.watched.Watched.{Watched}
use Rattle.roster_report.specs.Writing.{Writes, WritesPart}
use Rattle.roster_desk_arguments.specs.declared.line.PlanLine.{PlanLine}
use Rattle.roster_desk_given.specs.declared.status.Status.{Status}
use Rattle.roster_desk_given.specs.declared.status.Status.TheVariants as statuses
use Rattle.roster_desk_run.specs.Run.{IsAnswerTo, IsPlanOfBook, IsStartFault, IsStartRefused}
use Rattle.roster_desk_program.specs.Keeping.{HasRefused, keep_of}
use Rattle.roster_desk_program.specs.declared.files.TheConstants.{MOST_REPORT_BYTES}
use Rattle.roster_desk_program.specs.declared.ending.Ending.{Ending}
use Rattle.roster_desk_program.specs.declared.ending.Ending.TheVariants as endings

-- the exit status
abbrev pub ending_number : Ending → ℕ
ending_number endings.Planned = 0
ending_number endings.Faulty = 1
ending_number (endings.StartRefused line wrong) = 1
ending_number (endings.TooLong path) = 1
ending_number endings.InPlace = 2
ending_number endings.Shared = 2
ending_number endings.Memory = 3
ending_number (endings.Unopened path) = 4
ending_number (endings.Unread path) = 4
ending_number endings.InputUnread = 4
ending_number endings.Unwritten = 4
ending_number endings.Unkept = 4
ending_number endings.Forgotten = 4

-- ---- what is told

-- the path of standard input
abbrev pub standard_input : List ℕ
standard_input = codes "-"

-- a path and what is wrong with it
abbrev pub named_text : List ℕ → List ℕ → List ℕ
named_text path wrong = (codes "error: " ++ path) ++ wrong

-- What standard error is told before the line feed; none if nothing is. If the file that keeps a plan
-- couldn't be written, the watcher was told. Of a report that is refused nothing is said here.
abbrev pub ending_text : Ending → Option (List ℕ)
ending_text endings.Planned = None
ending_text endings.Faulty = None
ending_text (endings.StartRefused line wrong) = None
ending_text (endings.TooLong path) = Some (named_text path.now (codes " is too long for a report"))
ending_text endings.InPlace = Some (codes "error: a plan can't be kept in its book or in -")
ending_text endings.Shared = Some (codes "error: only one of the paths may be -")
ending_text endings.Memory = Some (codes "error: memory")
ending_text (endings.Unopened path) = Some (named_text path.now (codes " can't be opened"))
ending_text (endings.Unread path) = Some (named_text path.now (codes " can't be read"))
ending_text endings.InputUnread = Some (codes "error: read")
ending_text endings.Unwritten = Some (codes "error: write")
ending_text endings.Unkept = None
ending_text endings.Forgotten = None

-- ---- what was written

-- nothing was
abbrev pub IsSilent : Ending → Type 0
IsSilent endings.Planned = ⊥
IsSilent endings.Faulty = ⊥
IsSilent endings.Unwritten = ⊥
IsSilent endings.Unkept = ⊥
IsSilent endings.Forgotten = ⊥
IsSilent _ = ⊤

-- a file couldn't be opened, read or put
abbrev pub IsMissed : Ending → Type 0
IsMissed (endings.Unopened path) = ⊤
IsMissed (endings.Unread path) = ⊤
IsMissed endings.InputUnread = ⊤
IsMissed endings.Unkept = ⊤
IsMissed endings.Forgotten = ⊤
IsMissed _ = ⊥

-- the plan isn't kept
abbrev pub IsUnkept : Ending → Type 0
IsUnkept endings.Unkept = ⊤
IsUnkept endings.Forgotten = ⊤
IsUnkept _ = ⊥

-- the report is refused for what is wrong with it as one of the book
abbrev pub IsRefusedStart : Option (List ℕ) → Option (List ℕ) → Ending → Type 0
IsRefusedStart book report (endings.StartRefused line wrong) =
    OfTold (IsStartFault report (statuses.StartRefused line wrong)) book
IsRefusedStart book report _ = ⊤

-- What a writer holds that ended so, over a book of these bytes and a report of those, or no report: a plan
-- that begins with the report, whole and flushed; the line of the first fault; the first bytes of one of
-- them; or nothing.
pub record IsEnding {W : Type 0} (contents : W → Option (List ℕ)) (book : Option (List ℕ))
    (report : Option (List ℕ)) (old new : Watched W) (ending : Ending) : Type 0 where
  pub planned : ending ≡ endings.Planned → OfTold
      (λ records. Writes (IsPlanOfBook report records)
      (contents (inner_of old)) (contents (inner_of new))) book
  pub faulty : ending ≡ endings.Faulty → OfTold
      (λ records. Writes (IsRefusal Check records) (contents (inner_of old)) (contents (inner_of new))) book
  pub part : has_failed new ≡ true → OfTold
      (λ records. WritesPart (IsAnswerTo report records)
      (contents (inner_of old)) (contents (inner_of new))) book
  pub flushed : (ending ≡ endings.Planned → is_flushed new ≡ true)
      × (ending ≡ endings.Faulty → is_flushed new ≡ true)
  pub unkept : IsUnkept ending → OfTold
      (λ records. Writes (IsAnswerTo report records) (contents (inner_of old)) (contents (inner_of new))) book
      ⊎ (new ≡ old)
  pub silent : IsSilent ending → new ≡ old
  pub start : IsRefusedStart book report ending
  pub failed : (ending ≡ endings.Unwritten) ↔ (has_failed new ≡ true)

-- ---- what was read

-- it holds of the bytes, or, if they aren't known, of some
abbrev pub OfBytes : (List ℕ → Type 0) → Option (List ℕ) → Type 0
OfBytes Says (Some bytes) = Says bytes
OfBytes Says None = (bytes : List ℕ) × Says bytes

-- it holds of the bytes of the report at the path, or of no report if there is no path
abbrev pub OfReport : (Option (List ℕ) → Type 0) → (List ℕ → Option (List ℕ)) → Option (List ℕ) → Type 0
OfReport Says bytes_at None = Says None
OfReport Says bytes_at (Some path) = OfBytes (λ bytes. Says (Some bytes)) (bytes_at path)

-- the path of the report, if one is named
abbrev pub start_of : PlanLine → Option (List ℕ)
start_of line = option_map (λ path. path.now) line.start

-- the line would have the plan kept in standard input, in its book, or where that may take the book's place
abbrev pub KeepsInPlace : (List ℕ → List ℕ → Type 0) → PlanLine → Type 0
KeepsInPlace may_take line = IsSomeAnd (keep_of line)
    (λ path. (path ≡ standard_input) ⊎ (path ≡ line.book.now) ⊎ may_take path line.book.now)

-- book and report are both standard input
abbrev pub SharesInput : PlanLine → Type 0
SharesInput line = (line.book.now ≡ standard_input) × (start_of line ≡ Some standard_input)

-- the report is longer than a report may be, if its bytes are known
abbrev pub IsLongStart : (List ℕ → Option (List ℕ)) → PlanLine → Type 0
IsLongStart bytes_at line = IfSome (start_of line)
    (λ path. IfSome (bytes_at path) (λ bytes. MOST_REPORT_BYTES ≤ length bytes))

-- why the line asks for no plan
abbrev pub IsWrongLine : (List ℕ → List ℕ → Type 0) → PlanLine → Ending → Type 0
IsWrongLine may_take line endings.InPlace = KeepsInPlace may_take line
IsWrongLine may_take line endings.Shared = SharesInput line
IsWrongLine may_take line _ = ⊤

-- the file that is told is the line's
abbrev pub TellsPath : (List ℕ → Option (List ℕ)) → PlanLine → Ending → Type 0
TellsPath bytes_at line (endings.TooLong path) =
    (start_of line ≡ Some path.now) × IsLongStart bytes_at line
TellsPath bytes_at line (endings.Unopened path) =
    (line.book.now ≡ path.now) ⊎ (start_of line ≡ Some path.now)
TellsPath bytes_at line (endings.Unread path) =
    (line.book.now ≡ path.now) ⊎ (start_of line ≡ Some path.now)
TellsPath bytes_at line endings.InputUnread =
    (line.book.now ≡ standard_input) ⊎ (start_of line ≡ Some standard_input)
TellsPath bytes_at line _ = ⊤

-- What is told of a file has a cause: one that can't be opened isn't known to open, and if a plan isn't kept
-- some file couldn't take its text.
abbrev pub HasCause : {K : Type 0} → (List ℕ → Type 0) → (K → Bool) → Ending → Type 0
HasCause must_open has_refused (endings.Unopened path) = ¬ must_open path.now
HasCause must_open has_refused endings.Unkept = HasRefused has_refused
HasCause must_open has_refused _ = ⊤

-- ---- how the run of a book ends

-- it is that of a run whose plan isn't kept
abbrev pub EndsLost : Status → Type 0
EndsLost status =
    (status ≡ statuses.Answered) ⊎ (status ≡ statuses.Refused) ⊎ (status ≡ statuses.Memory)
    ⊎ IsStartRefused status

-- it was the run's status that ended it so
abbrev pub EndsRun : Status → Ending → Type 0
EndsRun status endings.Planned = status ≡ statuses.Answered
EndsRun status endings.Faulty = status ≡ statuses.Refused
EndsRun status (endings.StartRefused line wrong) = status ≡ statuses.StartRefused line wrong
EndsRun status endings.Memory = status ≡ statuses.Memory
EndsRun status (endings.Unread path) = status ≡ statuses.ReadFailed
EndsRun status endings.InputUnread = status ≡ statuses.ReadFailed
EndsRun status endings.Unwritten = (status ≡ statuses.WriteFailed) ⊎ (status ≡ statuses.Closed)
EndsRun status endings.Unkept = EndsLost status
EndsRun status endings.Forgotten = EndsLost status
EndsRun status _ = ⊥

-- the line asks for a plan, and the file that is told is its book
abbrev pub IsOfBook : PlanLine → Ending → Type 0
IsOfBook line endings.InPlace = ⊥
IsOfBook line endings.Shared = ⊥
IsOfBook line (endings.TooLong path) = ⊥
IsOfBook line (endings.Unopened path) = line.book.now ≡ path.now
IsOfBook line (endings.Unread path) = line.book.now ≡ path.now
IsOfBook line endings.InputUnread = line.book.now ≡ standard_input
IsOfBook line _ = ⊤

-- the file at the path, or standard input, can't be read
abbrev pub IsUnread : List ℕ → Ending → Type 0
IsUnread path (endings.Unread told) = path ≡ told.now
IsUnread path endings.InputUnread = path ≡ standard_input
IsUnread path _ = ⊥
