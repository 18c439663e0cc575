-- What the words of the desk's command line ask for.
use Rattle.std.specs.Prelude.{◌≡◌, ◌≢◌, ◌||◌, ⊤, Bool, ℕ, List, [], Some, None, IsSomeAnd, bytes_eq, codes, find, is_some, map, not, option_map, true, false, unwrap_or}
use Rattle.std.specs.List.{list_all}
use Rattle.std.specs.Str.Parse.{digits_value, without_leading_plus}
use Rattle.clap.specs.Words.{IsAmong, Kinds, Row, Shape, all_of, first_of, kind_of, one_of, subcommand_of}
use Rattle.clap.specs.ValueTests.{is_unsigned_in}
use Rattle.clap.specs.declared.error.kind.ErrorKind.TheVariants.{OutOfMemory}
use Rattle.roster_model.specs.declared.limits.TheConstants.{MOST_LINES, MOST_UNITS, MOST_WORKERS}
use Rattle.roster_desk_arguments.specs.Commands.{desk_app}
use Rattle.roster_desk_arguments.specs.declared.line.BookLine.{BookLine}
use Rattle.roster_desk_arguments.specs.declared.line.CarryLine.{CarryLine}
use Rattle.roster_desk_arguments.specs.declared.line.Line.TheVariants as lines
use Rattle.roster_desk_arguments.specs.declared.line.Line.{Line}
use Rattle.roster_desk_arguments.specs.declared.line.LineFault.TheVariants as faults
use Rattle.roster_desk_arguments.specs.declared.line.LineFault.{LineFault}
use Rattle.roster_desk_arguments.specs.declared.line.Page.TheVariants as pages
use Rattle.roster_desk_arguments.specs.declared.line.Page.{Page}
use Rattle.roster_desk_arguments.specs.declared.line.PlanLine.{PlanLine}
use Rattle.roster_desk_arguments.specs.declared.line.Question.TheVariants as questions
use Rattle.roster_desk_arguments.specs.declared.line.Question.{Question}
use Rattle.roster_desk_arguments.specs.declared.line.RepairLine.{RepairLine}
use Rattle.roster_desk_arguments.specs.declared.line.TableLine.{TableLine}
use Rattle.roster_desk_arguments.specs.declared.line.TellLine.{TellLine}

-- how the command of a line is spelled
abbrev pub spelling_of_question : Question → List ℕ
spelling_of_question (questions.Why pairing person all) = codes "why"
spelling_of_question (questions.Limits person) = codes "limits"
spelling_of_question (questions.Table table) = codes "table"
spelling_of_question (questions.Chart names) = codes "chart"
spelling_of_question (questions.Differences other) = codes "diff"
spelling_of_question (questions.Changed other) = codes "diff"

abbrev pub spelling_of_page : Page → List ℕ
spelling_of_page pages.Fault = codes "fault"
spelling_of_page pages.Warn = codes "warn"
spelling_of_page pages.Fair = codes "fair"

abbrev pub spelling : Line → List ℕ
spelling (lines.Plan plan) = codes "plan"
spelling (lines.Tell tell) = spelling_of_question tell.question
spelling (lines.Assigns path) = codes "assigns"
spelling (lines.Page page) = spelling_of_page page.page
spelling (lines.Repair repair) = codes "repair"
spelling (lines.Book book) = codes "book"
spelling (lines.Carry carry) = codes "carry"

-- the number that a text spells
abbrev pub number_spelled : List ℕ → ℕ
number_spelled text = digits_value 10 (without_leading_plus text)

-- a number is the one that is given within its limits, or the usual one if none is given
pub record IsNumberIn (rows : List Row) (name : List ℕ) (low high usual number : ℕ) : Type 0 where
  pub given : (text : List ℕ) → one_of name rows ≡ Some text → is_unsigned_in low high text ≡ true
      → number ≡ number_spelled text
  pub left_out : one_of name rows ≡ None → number ≡ usual

-- a flag is what is said of it
pub record IsFlagIn (rows : List Row) (name : List ℕ) (flag : Bool) : Type 0 where
  pub given : one_of name rows ≡ Some (codes "true") → flag ≡ true
  pub left_out : one_of name rows ≡ Some (codes "false") → flag ≡ false

-- each path of the plan is the value of its own argument, and so is each number; progress is told if it is
-- asked for
pub record IsPlanIn (rows : List Row) (plan : PlanLine) : Type 0 where
  pub book : first_of (codes "book") rows ≡ Some plan.book.now
  pub effort : IsNumberIn rows (codes "effort") 0 9 5 plan.effort
  pub workers : (text : List ℕ) → one_of (codes "workers") rows ≡ Some text
      → is_unsigned_in 1 MOST_WORKERS text ≡ true → plan.workers ≡ Some (number_spelled text)
  pub no_workers : one_of (codes "workers") rows ≡ None → plan.workers ≡ None
  pub sets : (text : List ℕ) → one_of (codes "sets") rows ≡ Some text → is_unsigned_in 1 MOST_LINES text ≡ true
      → plan.sets ≡ Some (number_spelled text)
  pub no_sets : one_of (codes "sets") rows ≡ None → plan.sets ≡ None
  pub start : first_of (codes "start") rows ≡ option_map (λ path. path.now) plan.start
  pub keep : first_of (codes "keep") rows ≡ option_map (λ path. path.now) plan.keep
  pub progress : IsFlagIn rows (codes "progress") plan.progress

-- each path of the repair is the value of its own argument, and so is each text and number; what breaks off are
-- all values of theirs
pub record IsRepairIn (rows : List Row) (repair : RepairLine) : Type 0 where
  pub book : first_of (codes "book") rows ≡ Some repair.book.now
  pub report : first_of (codes "report") rows ≡ Some repair.report.now
  pub begin : first_of (codes "from") rows ≡ Some repair.from.now
  pub change : IsNumberIn rows (codes "change") 0 MOST_UNITS 500 repair.change
  pub notice : first_of (codes "notice") rows ≡ option_map (λ text. text.now) repair.notice
  pub broken : map (λ text. text.now) repair.broken.items ≡ unwrap_or (all_of (codes "broken") rows) []

-- each path, text and number of the book is the value of its own argument, and its bases are all values of theirs
pub record IsBookIn (rows : List Row) (book : BookLine) : Type 0 where
  pub folder : first_of (codes "folder") rows ≡ Some book.folder.now
  pub month : first_of (codes "month") rows ≡ Some book.month.now
  pub bases : map (λ base. base.now) book.bases.items ≡ unwrap_or (all_of (codes "base") rows) []
  pub rank : first_of (codes "rank") rows ≡ option_map (λ text. text.now) book.rank
  pub weight : (text : List ℕ) → one_of (codes "weight") rows ≡ Some text → is_unsigned_in 0 MOST_UNITS text ≡ true
      → book.weight ≡ Some (number_spelled text)
  pub no_weight : one_of (codes "weight") rows ≡ None → book.weight ≡ None
  pub start : first_of (codes "start") rows ≡ option_map (λ path. path.now) book.start

-- each path of what is carried is the value of its own argument
pub record IsCarryIn (rows : List Row) (carry : CarryLine) : Type 0 where
  pub book : first_of (codes "book") rows ≡ Some carry.book.now
  pub report : first_of (codes "report") rows ≡ Some carry.report.now
  pub flown : first_of (codes "flown") rows ≡ option_map (λ path. path.now) carry.flown
  pub into : first_of (codes "into") rows ≡ option_map (λ path. path.now) carry.into

-- each flag of the table is what is said of it, and the path is the value of its own argument
pub record IsTableIn (rows : List Row) (table : TableLine) : Type 0 where
  pub persons : IsFlagIn rows (codes "persons") table.persons
  pub semicolon : IsFlagIn rows (codes "semicolon") table.semicolon
  pub bom : IsFlagIn rows (codes "bom") table.bom
  pub names : first_of (codes "names") rows ≡ option_map (λ path. path.now) table.names

-- each name of the question is the value of its own argument
abbrev pub HasNames : List Row → Question → Type 0
HasNames rows (questions.Why pairing person all) =
    (first_of (codes "pairing") rows ≡ option_map (λ name. name.now) pairing)
    × (first_of (codes "person") rows ≡ option_map (λ name. name.now) person)
    × IsFlagIn rows (codes "all") all
HasNames rows (questions.Limits person) =
    first_of (codes "person") rows ≡ option_map (λ name. name.now) person
HasNames rows (questions.Table table) = IsTableIn rows table
HasNames rows (questions.Chart names) = first_of (codes "names") rows ≡ option_map (λ path. path.now) names
HasNames rows (questions.Differences other) =
    (first_of (codes "other") rows ≡ Some other.now) × (one_of (codes "persons") rows ≢ Some (codes "true"))
HasNames rows (questions.Changed other) =
    (first_of (codes "other") rows ≡ Some other.now) × (one_of (codes "persons") rows ≢ Some (codes "false"))

-- and so is each path
pub record IsTellIn (rows : List Row) (tell : TellLine) : Type 0 where
  pub book : first_of (codes "book") rows ≡ Some tell.book.now
  pub report : first_of (codes "report") rows ≡ option_map (λ path. path.now) tell.report
  pub names : HasNames rows tell.question

-- each argument that the command requires has a value
abbrev pub has_required : List Row → Shape → Bool
has_required rows command = list_all (λ rule. not rule.required || is_some (first_of rule.id rows)) command.rules

-- the command of this name is one of the desk's, and what it requires has values
unfoldable pub IsWhole : List ℕ → List Row → Type 0
IsWhole name rows =
    IsSomeAnd (find (λ command. bytes_eq command.name name) desk_app.subs)
    (λ command. has_required rows command ≡ true)

-- the line is what the words of its command say
abbrev pub AsksIn : List Row → Line → Type 0
AsksIn rows (lines.Plan plan) = IsPlanIn rows plan
AsksIn rows (lines.Tell tell) = IsTellIn rows tell
AsksIn rows (lines.Assigns path) = first_of (codes "report") rows ≡ Some path.now
AsksIn rows (lines.Page page) = first_of (codes "book") rows ≡ Some page.book.now
AsksIn rows (lines.Repair repair) = IsRepairIn rows repair
AsksIn rows (lines.Book book) = IsBookIn rows book
AsksIn rows (lines.Carry carry) = IsCarryIn rows carry

-- the words name the command of the line, and the line is what they say
pub record Asks (words : List (List ℕ)) (line : Line) : Type 0 where
  pub rows : List Row
  pub named : subcommand_of desk_app words ≡ Some (spelling line, rows)
  pub asks : AsksIn rows line

-- want of memory goes by its own name
abbrev pub NamesMemory : LineFault → Type 0
NamesMemory (faults.Refused error) = kind_of error ≢ OutOfMemory
NamesMemory faults.Memory = ⊤

-- a refusal has one of the kinds
abbrev pub TellsKind : Kinds → LineFault → Type 0
TellsKind kinds (faults.Refused error) = IsAmong (kind_of error) kinds
TellsKind kinds faults.Memory = ⊤
