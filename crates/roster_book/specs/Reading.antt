-- What the reading of a book says of the bytes that a reader has left.
use Rattle.std.specs.Prelude.{◌≡◌, ◌+◌, ◌≤◌, ⊤, true, false, ℕ, List, ◌++◌, length, Option, Some, None, if◌then◌else◌, option_map, All}
use Rattle.csv.specs.Machine.{ends_at_end}
use Rattle.csv.specs.Reading.{Ready, default_config, has_failed, is_flexible, reader_config, reader_state, reader_trim, records_from, source_of}
use Rattle.csv.specs.declared.parser.State.{State}
use Rattle.csv.specs.declared.reader.Reader.{Reader}
use Rattle.csv.specs.declared.reader.Trim.TheVariants as trim
use Rattle.roster_book.specs.declared.book.Book.{Book}
use Rattle.roster_book.specs.declared.fault.BookFault.{BookFault}
use Rattle.roster_book.specs.declared.fault.BookFault.TheVariants.{At, Device, Memory}
use Rattle.roster_model.specs.Answer.{records_of}
use Rattle.roster_model.specs.Record.{Record, Command}
use Rattle.roster_model.specs.Problem.{problem_of}
use Rattle.roster_model.specs.Faults.{first_fault}
use Rattle.roster_model.specs.records.Assign.{assigned_in}
use Rattle.roster_model.specs.records.Step.{steps_in}

-- The records have no fault, this is their problem, that the roster that they give, and these are their
-- steps. The roster has one number for each pairing, the place of a person or the number of persons.
pub record IsBookOf (command : Command) (records : List Record) (book : Book) : Type 0 where
  pub faultless : first_fault command records ≡ None
  pub problem_is : book.problem ≡ problem_of records
  pub assigned_is : book.assigned ≡ assigned_in records
  pub steps_are : book.steps ≡ steps_in records
  pub covers : length book.assigned ≡ length book.problem.pairings
  pub numbers : All (λ x. x ≤ length book.problem.persons) book.assigned

-- if the fault is a record's, it is the first fault of the records
abbrev pub TellsFirst : Command → List Record → BookFault → Type 0
TellsFirst command records (At row code) =
    first_fault command records ≡ Some (record { row = row; code = code })
TellsFirst command records Device = ⊤
TellsFirst command records Memory = ⊤

-- ---- the records of a reader

-- It holds of these records, or, if they aren't known, of some.
abbrev pub OfKnown : (List Record → Type 0) → Option (List Record) → Type 0
OfKnown Says (Some records) = Says records
OfKnown Says None = (records : List Record) × Says records

-- It holds of the records of the bytes that a reader told, or, if they aren't known, of some.
abbrev pub OfTold : (List Record → Type 0) → Option (List ℕ) → Type 0
OfTold Says told = OfKnown Says (option_map records_of told)

-- the reader works, takes no record for a header row, and takes records of any length
pub record IsOpen {R : Type 0} (rows : Reader R) : Type 0 where
  pub config : reader_config rows ≡ default_config
  pub trim : reader_trim rows ≡ trim.None
  pub ready : Ready rows
  pub flexible : is_flexible rows ≡ true
  pub working : has_failed rows ≡ false

-- the records of known bytes, for a machine that stands between two records
abbrev pub records_between : State → Option (List ℕ) → Option (List Record)
records_between s bytes =
    if ends_at_end s then None else option_map
    (λ known. records_from default_config (length known + 1) s known) bytes

-- the records that a reader between two records has still to give, if its bytes are known
abbrev pub records_left : {R : Type 0} → (R → Option (List ℕ)) → Reader R → Option (List Record)
records_left remaining rows = records_between (reader_state rows) (source_of remaining rows)

-- all records are those seen and then those left, if they are known
abbrev pub AreSeen : Option (List Record) → List Record → Option (List Record) → Type 0
AreSeen None seen left = ⊤
AreSeen (Some all) seen None = ⊥
AreSeen (Some all) seen (Some left) = all ≡ seen ++ left
