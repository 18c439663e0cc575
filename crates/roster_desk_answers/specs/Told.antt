-- What is told of a roster of a book.
use Rattle.std.specs.Prelude.{◌≡◌, ◌≤◌, ◌<◌, ◌⊎◌, ◌++◌, ⊤, ℕ, Bool, true, false, List, [], Option, Some, None, All, Err, Ok, if◌then◌else◌, is_ok, is_some, length, option_map, slice_get}
use Rattle.std.specs.Borrow.{Bor}
use Rattle.std.specs.List.{flat_map}
use Rattle.roster_model.specs.Answer.{records_of}
use Rattle.roster_model.specs.Faults.{first_fault}
use Rattle.roster_model.specs.Problem.{Problem, problem_of}
use Rattle.roster_model.specs.Record.{Check}
use Rattle.roster_model.specs.records.Assign.{assigned_in}
use Rattle.roster_desk_arguments.specs.declared.line.Question.{Question}
use Rattle.roster_desk_arguments.specs.declared.line.Question.TheVariants as questions
use Rattle.roster_desk_arguments.specs.declared.line.TableLine.{TableLine}
use Rattle.roster_desk_given.specs.Asked.{pairing_asked, person_asked}
use Rattle.roster_desk_given.specs.declared.asked.Unknown.{Unknown}
use Rattle.roster_desk_given.specs.declared.status.Status.{Status}
use Rattle.roster_desk_given.specs.declared.status.Status.TheVariants as statuses
use Rattle.roster_desk_reports.specs.Faults.{Told, fault_of_report}
use Rattle.roster_desk_reports.specs.Given.{HasAll, IsGiven}
use Rattle.roster_desk_reports.specs.Known.{fault_of_known, known_by_text, unknown_of}
use Rattle.roster_desk_reports.specs.Text.{Given, given_by_text}
use Rattle.roster_desk_tables.specs.Changed.{IsChange}
use Rattle.roster_desk_tables.specs.Differences.{IsDifference}
use Rattle.roster_desk_tables.specs.Rows.{IsPersonsTable}
use Rattle.roster_desk_tables.specs.declared.writing.Sheet.{Sheet}
use Rattle.roster_desk_words.specs.Limits.{IsLimitsText}
use Rattle.roster_desk_answers.specs.Refusing.{RefusesReport}
use Rattle.roster_desk_answers.specs.declared.telling.FileRead.{FileRead}
use Rattle.roster_desk_answers.specs.declared.telling.Inputs.{Inputs}
use Rattle.roster_desk_answers.specs.declared.untold.Untold.{Untold}
use Rattle.roster_desk_answers.specs.declared.untold.Untold.TheVariants as untolds

-- ---- reports

-- a difference may be one of reports of the book as it was: it passes over persons and pairings that the book doesn't have
abbrev pub passes_over : Question → Bool
passes_over (questions.Why pairing person all) = false
passes_over (questions.Limits person) = false
passes_over (questions.Table line) = false
passes_over (questions.Chart names) = false
passes_over (questions.Differences other) = true
passes_over (questions.Changed other) = true

-- what a report gives that is read so, and what is wrong with it
abbrev pub given_in : Bool → Problem → List ℕ → List Given
given_in true problem report = known_by_text problem report
given_in false problem report = given_by_text report

abbrev pub fault_in : Bool → Problem → List ℕ → Option Told
fault_in true problem report = fault_of_known problem report
fault_in false problem report = fault_of_report problem report

-- nothing is wrong with the report, and the roster has what it gives, and nothing else
pub record IsRosterOf (over : Bool) (problem : Problem) (report places : List ℕ) : Type 0 where
  pub faultless : fault_in over problem report ≡ None
  pub covers : length places ≡ length problem.pairings
  pub numbers : All (λ x. x ≤ length problem.persons) places
  pub has : HasAll problem places (given_in over problem report)
  pub only : (p k : ℕ) → k < length problem.persons → slice_get places p ≡ Some k
      → IsGiven problem (given_in over problem report) p k

-- it is that of the report if one was read, and else the book's own
abbrev pub IsRosterIn : Bool → Problem → List ℕ → Option FileRead → List ℕ → Type 0
IsRosterIn over problem assigned None places = places ≡ assigned
IsRosterIn over problem assigned (Some file) places = IsRosterOf over problem file.bytes.items places

-- ---- names

-- the book has the name, if one is asked for
abbrev pub HasPairing : Problem → Option (Bor (List ℕ)) → Type 0
HasPairing problem name = is_ok (pairing_asked problem (option_map (λ s. s.now) name)) ≡ true

abbrev pub HasPerson : Problem → Option (Bor (List ℕ)) → Type 0
HasPerson problem name = is_ok (person_asked problem (option_map (λ s. s.now) name)) ≡ true

-- it doesn't have the one that is told
abbrev pub LacksName : Problem → Option (Bor (List ℕ)) → Option (Bor (List ℕ)) → Unknown → Type 0
LacksName problem pairing person unknown =
    (pairing_asked problem (option_map (λ s. s.now) pairing) ≡ Err unknown)
    ⊎ (person_asked problem (option_map (λ s. s.now) person) ≡ Err unknown)

-- ---- what is told

-- a row for each person, in the look that the line asks for, with what persons are called if a file tells it
pub record IsPersonsPage (problem : Problem) (places : List ℕ) (line : TableLine) (is_named : Bool) (text : List ℕ)
    : Type 0 where
  pub sheet : Sheet
  pub semicolon : sheet.look.semicolon ≡ line.semicolon
  pub mark : sheet.look.mark ≡ line.bom
  pub names : is_some sheet.names ≡ is_named
  pub table : IsPersonsTable problem places sheet text

-- what differs between the roster and that of the other report
pub record DiffersBy (problem : Problem) (before other text : List ℕ) : Type 0 where
  pub after : List ℕ
  pub roster : IsRosterOf true problem other after
  pub difference : IsDifference problem before after text

-- The text tells how near to each limit the person of the name is, or each person if there is no name. The book has the
-- name.
pub record TellsLimits (problem : Problem) (places : List ℕ) (name : Option (Bor (List ℕ))) (text : List ℕ) : Type 0 where
  pub named : Option ℕ
  pub is : person_asked problem (option_map (λ s. s.now) name) ≡ Ok named
  pub limits : IsLimitsText problem places named text

-- whose month differs between them, and on which days
pub record ChangesBy (problem : Problem) (before other text : List ℕ) : Type 0 where
  pub after : List ℕ
  pub roster : IsRosterOf true problem other after
  pub change : IsChange problem before after text

-- The text tells what the question asks of the roster. Few words are promised of some texts.
abbrev pub Tells : Problem → List ℕ → Inputs → Question → List ℕ → Type 0
Tells problem places inputs (questions.Why pairing person all) text = HasPairing problem pairing × HasPerson problem person
Tells problem places inputs (questions.Limits person) text = TellsLimits problem places person text
Tells problem places inputs (questions.Table line) text =
    line.persons ≡ true → IsPersonsPage problem places line (is_some inputs.names) text
Tells problem places inputs (questions.Chart names) text = ⊤
Tells problem places inputs (questions.Differences other) text = DiffersBy problem places inputs.other.items text
Tells problem places inputs (questions.Changed other) text = ChangesBy problem places inputs.other.items text

-- so it is of the roster among the inputs, or the book's own
pub record IsTold (question : Question) (inputs : Inputs) (problem : Problem) (assigned text : List ℕ) : Type 0 where
  pub places : List ℕ
  pub roster : IsRosterIn (passes_over question) problem assigned inputs.report places
  pub tells : Tells problem places inputs question text

-- and the book has no fault
pub record IsAnswer (question : Question) (inputs : Inputs) (text : List ℕ) : Type 0 where
  pub faultless : first_fault Check (records_of inputs.book.items) ≡ None
  pub told : IsTold question inputs (problem_of (records_of inputs.book.items))
      (assigned_in (records_of inputs.book.items)) text

-- ---- what standard error is told

abbrev pub unknown_in : Problem → List ℕ → List ℕ
unknown_in problem report = flat_map (unknown_of problem) (given_by_text report)

abbrev pub unknown_in_file : Problem → Option FileRead → List ℕ
unknown_in_file problem None = []
unknown_in_file problem (Some file) = unknown_in problem file.bytes.items

-- what the reports of a difference have and the book doesn't
abbrev pub notes_of : Question → Inputs → Problem → List ℕ
notes_of question inputs problem =
    if passes_over question then unknown_in_file problem inputs.report ++ unknown_in problem inputs.other.items else []

-- nothing, or that
abbrev pub MayBeNotes : Question → Inputs → List ℕ → Type 0
MayBeNotes question inputs notes =
    (notes ≡ []) ⊎ (notes ≡ notes_of question inputs (problem_of (records_of inputs.book.items)))

-- So it is if the question is answered.
pub record AreNotes (question : Question) (inputs : Inputs) (status : Status) (notes : List ℕ) : Type 0 where
  pub answered : status ≡ statuses.Answered
      → notes ≡ notes_of question inputs (problem_of (records_of inputs.book.items))
  pub any : MayBeNotes question inputs notes

-- ---- why nothing is told

-- the book doesn't have a name that is asked for; memory may run out wherever
abbrev pub MissesName : Problem → Option (Bor (List ℕ)) → Option (Bor (List ℕ)) → Untold → Type 0
MissesName problem pairing person (untolds.Unknown unknown) = LacksName problem pairing person unknown
MissesName problem pairing person (untolds.Report path fault) = ⊥
MissesName problem pairing person (untolds.Words sentence) = ⊥
MissesName problem pairing person (untolds.Faulty text) = ⊥
MissesName problem pairing person untolds.Unlike = ⊥
MissesName problem pairing person (untolds.Names text) = ⊥
MissesName problem pairing person untolds.Memory = ⊤

-- something is wrong with the table of names, if there is one
abbrev pub MisreadsNames : Bool → Untold → Type 0
MisreadsNames is_given (untolds.Unknown unknown) = ⊥
MisreadsNames is_given (untolds.Report path fault) = ⊥
MisreadsNames is_given (untolds.Words sentence) = ⊥
MisreadsNames is_given (untolds.Faulty text) = ⊥
MisreadsNames is_given untolds.Unlike = ⊥
MisreadsNames is_given (untolds.Names text) = is_given ≡ true
MisreadsNames is_given untolds.Memory = ⊤

-- what keeps the text of the question from being told
abbrev pub Withholds : Problem → Inputs → Question → Untold → Type 0
Withholds problem inputs (questions.Why pairing person all) untold = MissesName problem pairing person untold
Withholds problem inputs (questions.Limits person) untold = MissesName problem None person untold
Withholds problem inputs (questions.Table line) untold = MisreadsNames (is_some inputs.names) untold
Withholds problem inputs (questions.Chart names) untold = MisreadsNames (is_some inputs.names) untold
Withholds problem inputs (questions.Differences other) untold =
    RefusesReport other.now (λ told. fault_of_known problem inputs.other.items ≡ Some told) untold
Withholds problem inputs (questions.Changed other) untold =
    RefusesReport other.now (λ told. fault_of_known problem inputs.other.items ≡ Some told) untold

-- the report that gives the roster is refused
abbrev pub RefusesRoster : Bool → Problem → Option FileRead → Untold → Type 0
RefusesRoster over problem None untold = ⊥
RefusesRoster over problem (Some file) untold =
    RefusesReport file.path.now (λ told. fault_in over problem file.bytes.items ≡ Some told) untold

-- one of the two does
abbrev pub IsUntold : Question → Inputs → Problem → Untold → Type 0
IsUntold question inputs problem untold =
    RefusesRoster (passes_over question) problem inputs.report untold ⊎ Withholds problem inputs question untold

-- The book has no fault, and it is so, or memory ran out.
pub record IsUnanswered (question : Question) (inputs : Inputs) (untold : Untold) : Type 0 where
  pub faultless : first_fault Check (records_of inputs.book.items) ≡ None
  pub why : IsUntold question inputs (problem_of (records_of inputs.book.items)) untold
