-- The row of a person.
use Rattle.std.specs.Prelude.{◌≡◌, ◌==◌, ◌++◌, ◌∷◌, ℕ, List, [], Some, codes, length, option_map, slice_get}
use Rattle.csv.specs.Writing.{row_text}
use Rattle.std.specs.Fmt.{decimal, signed_decimal}
use Rattle.std.specs.List.{count_by}
use Rattle.roster_model.specs.Places.{set_of}
use Rattle.roster_model.specs.Problem.{Problem, home_of}
use Rattle.roster_model.specs.Rules.{duty_list}
use Rattle.roster_model.specs.records.Crew.{Person}
use Rattle.roster_model.specs.records.Leave.{is_leave_of}
use Rattle.roster_problem.specs.Duties.{positions_where}
use Rattle.roster_desk_sheets.specs.Written.{HasRow, mark_of, parted, setup_of, text_of}
use Rattle.roster_desk_tables.specs.Cells.{cells_with, columns_with}
use Rattle.roster_desk_tables.specs.Days.{AreMonthDays}
use Rattle.roster_desk_tables.specs.Having.{Have}
use Rattle.roster_desk_tables.specs.Sums.{AreSums}
use Rattle.roster_desk_tables.specs.declared.month.MonthDays.{MonthDays}
use Rattle.roster_desk_tables.specs.declared.sums.Sums.{Sums}
use Rattle.roster_desk_tables.specs.declared.writing.Sheet.{Sheet}
use Rattle.roster_desk_tables.specs.declared.writing.TableRows.{TableRows}

-- how many pairings the roster gives to person k
abbrev pub pairings_of : List ℕ → ℕ → ℕ
pairings_of places k = count_by (λ place. place == k) places

-- how many duties the person has with it
abbrev pub duties_of : Problem → List ℕ → ℕ → ℕ
duties_of problem places k = length (duty_list problem k (set_of k places))

-- how many leaves the book gives the person
abbrev pub leaves_of : Problem → ℕ → ℕ
leaves_of problem k = length (positions_where (is_leave_of k) 0 problem.leaves)

-- the cells of a person
abbrev pub person_cells : Problem → List ℕ → ℕ → Person → MonthDays → Sums → List (List ℕ)
person_cells problem places k person month sums =
    person.id ∷ (home_of problem k).id
    ∷ decimal (pairings_of places k) ∷ decimal (duties_of problem places k) ∷ decimal (leaves_of problem k)
    ∷ decimal month.work ∷ decimal month.free ∷ decimal month.weekends
    ∷ signed_decimal sums.flight ∷ signed_decimal sums.duty7 ∷ signed_decimal sums.duty14
    ∷ signed_decimal sums.duty28 ∷ signed_decimal sums.flight28
    ∷ decimal person.target ∷ signed_decimal sums.cost ∷ []

-- The new rows are the old ones and that of person k with the roster.
pub record HasPersonRow (problem : Problem) (places : List ℕ) (k : ℕ) (old new : TableRows) : Type 0 where
  pub person : Person
  pub month : MonthDays
  pub sums : Sums
  pub is : slice_get problem.persons k ≡ Some person
  pub days : AreMonthDays (home_of problem k).days (duty_list problem k (set_of k places)) month
  pub are : AreSums problem places k sums
  pub names : new.names ≡ old.names
  pub row : HasRow old.records new.records
      (cells_with (option_map (λ names. names.now.called.items) old.names) (person_cells problem places k person month sums))

-- ---- the whole table

-- the names of the columns
abbrev pub person_columns : List (List ℕ)
person_columns =
    codes "PERSON" ∷ codes "BASE" ∷ codes "PAIRINGS" ∷ codes "DUTIES" ∷ codes "LEAVES"
    ∷ codes "WORKDAYS" ∷ codes "FREEDAYS" ∷ codes "WEEKENDS" ∷ codes "FLIGHT" ∷ codes "DUTY7"
    ∷ codes "DUTY14" ∷ codes "DUTY28" ∷ codes "FLIGHT28" ∷ codes "TARGET" ∷ codes "COST" ∷ []

-- the new rows are the old ones and those of the first n persons
abbrev pub HavePersonRows : Problem → List ℕ → ℕ → TableRows → TableRows → Type 0
HavePersonRows problem places n old new = Have (HasPersonRow problem places) n old new

-- The text has the names of the columns, and below them the rows of all persons.
pub record IsPersonsTable (problem : Problem) (places : List ℕ) (sheet : Sheet) (text : List ℕ) : Type 0 where
  pub first : TableRows
  pub last : TableRows
  pub setup : setup_of first.records ≡ parted sheet.look.semicolon
  pub heads : text_of first.records ≡ mark_of sheet.look.mark
      ++ row_text (parted sheet.look.semicolon) (columns_with sheet.names person_columns)
  pub names : first.names ≡ sheet.names
  pub rows : HavePersonRows problem places (length problem.persons) first last
  pub all : text ≡ text_of last.records
