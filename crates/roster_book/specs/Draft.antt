-- What is kept of the records taken so far.
use Rattle.std.specs.Prelude.{◌≡◌, ◌<◌, ◌+◌, ℕ, List, [], ◌∷◌, ◌++◌, length, Option, Some, None, Result, Ok, Err, IsOk, IsErr, option_map, unwrap_or, slice_get}
use Rattle.roster_model.specs.Record.{Record, Command, next_row}
use Rattle.roster_model.specs.Code as model
use Rattle.roster_model.specs.Calendar.{Days}
use Rattle.roster_model.specs.Zone.{ZoneRefusal}
use Rattle.roster_model.specs.Problem.{Problem, in_order, tables_in}
use Rattle.roster_model.specs.Faults.{IsFaultlessSoFar, code_of}
use Rattle.roster_model.specs.records.Base.{Base, base_at}
use Rattle.roster_model.specs.records.Assign.{Assign, assigns_in}
use Rattle.roster_model.specs.records.Step as replayed
use Rattle.roster_model.specs.records.Step.{steps_in}
use Rattle.roster_book.specs.declared.code.Code.{Code}
use Rattle.roster_book.specs.declared.draft.Draft.{Draft}
use Rattle.roster_book.specs.declared.refusal.Refusal.{Refusal}
use Rattle.roster_book.specs.declared.refusal.Refusal.TheVariants as refusals
use Rattle.roster_book.specs.View as view
use Rattle.roster_book.specs.View.{Refuses}
use Rattle.roster_problem.specs.Sound.{tables_of}
use Rattle.roster_values.specs.View.{step_of}
use Rattle.roster_values.specs.declared.step.Step.{Step}

-- the tables, with the duties that are kept apart
abbrev pub tables_of_draft : Draft → Problem
tables_of_draft d = record (tables_of d.tables) { duties = d.duties }

-- the same, with the duties in their order in time
abbrev pub problem_of_draft : Draft → Problem
problem_of_draft d = record (tables_of_draft d) { duties = in_order d.duties }

-- what is kept: the tables, who is assigned to pairings, and the steps
pub record Contents : Type 0 where
  pub tables : Problem
  pub assigns : List Assign
  pub steps : List replayed.Step

abbrev pub contents_of : Draft → Contents
contents_of d = record { tables = tables_of_draft d; assigns = d.assigns.items; steps = d.steps }

-- These records come before the row, none of them has a fault of its own, and the contents are theirs.
pub record IsDraftOf (command : Command) (row : ℕ) (before : List Record) (contents : Contents) : Type 0 where
  pub begun : 0 < length before
  pub row_is : row ≡ next_row before
  pub tables_are : contents.tables ≡ tables_in before
  pub assigns_are : contents.assigns ≡ assigns_in before
  pub steps_are : contents.steps ≡ steps_in before
  pub faultless : IsFaultlessSoFar command before

-- they are the contents of some records without a fault
unfoldable pub HasRecords : Contents → Type 0
HasRecords contents =
    ∥ ((command : Command) × (row : ℕ) × (before : List Record) × IsDraftOf command row before contents) ∥₁

-- the base of the pairing at a place
abbrev pub base_of_pairing : Problem → ℕ → Base
base_of_pairing tables p =
    base_at tables.bases (unwrap_or (option_map (λ pairing. pairing.base) (slice_get tables.pairings p)) 0)

-- A record that has to meet these conditions meets them all and makes this entry, or it has the code
-- of the first that it doesn't meet.
abbrev pub Judges : {X : Type 0} → Option model.Code → X → Result X Code → Type 0
Judges told entry (Ok x) = (told ≡ None) × (x ≡ entry)
Judges told entry (Err code) = told ≡ Some (view.code_of code)

-- the same of a step, which the definitions see as one of theirs
abbrev pub JudgesStep : Option model.Code → replayed.Step → Result Step Code → Type 0
JudgesStep told entry (Ok x) = (told ≡ None) × (step_of x ≡ entry)
JudgesStep told entry (Err code) = told ≡ Some (view.code_of code)

-- the same if memory may run out in a record without a fault
abbrev pub Reads : {X : Type 0} → Option model.Code → X → Result X Refusal → Type 0
Reads told entry (Ok x) = (told ≡ None) × (x ≡ entry)
Reads told entry (Err e) = Refuses e told

-- The entry stands behind the others, or the record is refused.
abbrev pub Pushes : {X : Type 0} → Option model.Code → X → List X → List X → Result (Unit {0}) Refusal
    → Type 0
Pushes told entry old new (Ok done) = (told ≡ None) × (new ≡ old ++ entry ∷ [])
Pushes told entry old new (Err e) = Refuses e told

-- The record is taken, so that the contents are those of one record more, or it is refused.
abbrev pub Takes : Command → ℕ → List Record → Record → Contents → Result (Unit {0}) Refusal → Type 0
Takes command row before fields new (Ok done) =
    (code_of command before fields ≡ None) × IsDraftOf command (row + 1) (before ++ fields ∷ []) new
Takes command row before fields new (Err e) = Refuses e (code_of command before fields)

-- A zone's days are found, or it has none, or it has some and memory has run out.
abbrev pub FindsDays : Result Days ZoneRefusal → Result Days Refusal → Type 0
FindsDays found (Ok days) = found ≡ Ok days
FindsDays found (Err (refusals.Fault code)) = (view.code_of code ≡ model.ZoneRefused) × IsErr found
FindsDays found (Err refusals.Memory) = IsOk found
