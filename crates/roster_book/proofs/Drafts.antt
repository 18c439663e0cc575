-- A draft after one more record without a fault.
use Rattle.std.proofs.Common.{◌≡◌, ◌+◌, ◌<◌, ◌==◌, ℕ, Bool, true, false, cond, List, [], ◌∷◌, ◌++◌, length, Some, None, Result, Ok, Err, refl, sym, subst, ◌∙◌, length-append, arith}
use Rattle.std.specs.Prelude.{IsErrAnd}
use Rattle.std.specs.List.{find}
use Rattle.std.proofs.lemmas.Bool.Decides.{nat_tests}
use Rattle.roster_model.specs.Record.{Record, Command, kinds_of, Kind, SectorRecord, AssignRecord, StepRecord, is_of}
use Rattle.roster_model.specs.Code.{UnknownKind}
use Rattle.roster_model.specs.Faults.{code_of, code_of_kind, kind_in}
use Rattle.roster_model.specs.records.Duty.{Sector}
use Rattle.roster_model.specs.records.Sector.{GivenSector, sector_of}
use Rattle.roster_book.specs.Flown.{with_sector_at}
use Rattle.roster_book.specs.Draft.{Contents, HasRecords, IsDraftOf, Pushes, Takes}
use Rattle.roster_book.specs.View.{Refuses}
use Rattle.roster_book.specs.declared.refusal.Refusal.{Refusal}
use Rattle.roster_book.proofs.FirstFaultLemmas.{faultless-more}
use Rattle.roster_model.specs.records.Assign.{assign_of}
use Rattle.roster_model.specs.records.Step.{step_of}
use Rattle.roster_book.proofs.Tables.{contents_with, entries_of-append, tables_in-append}

found_is : (kinds : List Kind) (kind : Kind) (fields : Record) → find (λ k. is_of k fields) kinds ≡ Some kind
    → is_of kind fields ≡ true
found_is [] kind fields h = cc
found_is (first ∷ kinds) kind fields h =
    let P : Bool → Type 0 = λ b. is_of first fields ≡ b → cond b (Some first) (find (λ k. is_of k fields) kinds) ≡ Some kind → is_of kind fields ≡ true in
    elim (is_of first fields) as P [ true ↦ λ e s. (let same : first ≡ kind = cc in rw (← same) e) | false ↦ λ e s. found_is kinds kind fields s ] refl h

pub kind_is : (command : Command) (kind : Kind) (fields : Record) → kind_in command fields ≡ Some kind
    → is_of kind fields ≡ true
kind_is command kind fields h = found_is (kinds_of command) kind fields h

not_empty : (before : List Record) → 0 < length before → (length before == 0) ≡ false
not_empty before h = grind (arith, nat_tests)

-- the code of a record that isn't the first
pub code_of-later : (command : Command) (kind : Kind) (before : List Record) (fields : Record)
    → 0 < length before
    → kind_in command fields ≡ Some kind → code_of command before fields ≡ code_of_kind kind before fields
unfolding code_of
code_of-later command kind before fields h k = rw (not_empty before h, k) refl

pub code_of-unknown : (command : Command) (before : List Record) (fields : Record) → 0 < length before
    → kind_in command fields ≡ None → code_of command before fields ≡ Some UnknownKind
unfolding code_of
code_of-unknown command before fields h k = rw (not_empty before h, k) refl

-- the draft with what a record of the kind adds
pub IsDraftOf-append : (command : Command) (row : ℕ) (kind : Kind) (before : List Record) (fields : Record)
    (contents : Contents)
    → IsDraftOf command row before contents → kind_in command fields ≡ Some kind
    → code_of_kind kind before fields ≡ None
    → (code_of command before fields ≡ None) × IsDraftOf command (row + 1) (before ++ fields ∷ []) (contents_with kind before fields contents)
IsDraftOf-append command row kind before fields contents d k none =
    let own = code_of-later command kind before fields d.begun k ∙ none in
    let longer = length-append before (fields ∷ []) in (
      own,
      record {
        begun = omega arith;
        row_is = omega (arith, d.row_is);
        tables_are =
            rw d.tables_are
            (sym (tables_in-append kind before fields d.begun (kind_is command kind fields k)));
        assigns_are = rw d.assigns_are (sym (entries_of-append kind AssignRecord assign_of before fields (kind_is command kind fields k)));
        steps_are =
            rw d.steps_are
            (sym (entries_of-append kind StepRecord step_of before fields (kind_is command kind fields k)));
        faultless = faultless-more command [] before fields d.faultless own;
      },
    )

-- a draft has records
pub HasRecords-draft : (command : Command) (row : ℕ) (before : List Record) (contents : Contents)
    → IsDraftOf command row before contents → HasRecords contents
unfolding HasRecords
HasRecords-draft command row before contents d = ∣ (command, row, before, d) ∣₁

-- the record is taken where the entry that it makes is pushed
pub Takes-pushed : {X : Type 0} (command : Command) (row : ℕ) (kind : Kind) (before : List Record)
    (fields : Record) (contents new : Contents) (entry : X) (entries longer : List X)
    (r : Result (Unit {0}) Refusal)
    → IsDraftOf command row before contents → Some kind ≡ kind_in command fields
    → Pushes (code_of_kind kind before fields) entry entries longer r
    → (longer ≡ entries ++ entry ∷ [] → new ≡ contents_with kind before fields contents)
    → Takes command row before fields new r
Takes-pushed command row kind before fields contents new entry entries longer (Ok done) d k p same =
    rw (same p.1) (IsDraftOf-append command row kind before fields contents d (sym k) p.0)
Takes-pushed command row kind before fields contents new entry entries longer (Err e) d k p same =
    rw (code_of-later command kind before fields d.begun (sym k)) p

-- nor is it taken where it is refused on the way
pub Takes-refused : {command : Command} {row : ℕ} {kind : Kind} {before : List Record} {contents : Contents}
    (fields : Record) (new : Contents) (refusal : Refusal) (r : Result (Unit {0}) Refusal)
    → IsDraftOf command row before contents → Some kind ≡ kind_in command fields
    → IsErrAnd r (λ e. e ≡ refusal) → Refuses refusal (code_of_kind kind before fields)
    → Takes command row before fields new r
Takes-refused fields new refusal (Ok done) d k err told = absurd err
Takes-refused {command = command} {kind = kind} {before = before} fields new refusal (Err e) d k err told =
    rw (err, code_of-later command kind before fields d.begun (sym k)) told

-- the record of a sector is taken where its duty has it behind its others
pub IsDraftOf-sector : (command : Command) (row : ℕ) (before : List Record) (fields : Record)
    (contents : Contents) (place : ℕ) (sector : Sector)
    → IsDraftOf command row before contents → Some SectorRecord ≡ kind_in command fields
    → code_of_kind SectorRecord before fields ≡ None
    → sector_of before fields ≡ record { duty = Some place; sector = sector }
    → (code_of command before fields ≡ None)
    × IsDraftOf command (row + 1) (before ++ fields ∷ [])
    (record contents { tables = record contents.tables { duties = with_sector_at contents.tables.duties (Some place) sector } })
IsDraftOf-sector command row before fields contents place sector d k none given =
    let new : GivenSector → Contents = λ g. record contents { tables = record contents.tables { duties = with_sector_at contents.tables.duties g.duty g.sector } } in
    let taken = IsDraftOf-append command row SectorRecord before fields contents d (sym k) none in
    (taken.0, subst (λ g. IsDraftOf command (row + 1) (before ++ fields ∷ []) (new g)) given taken.1)
