-- One more record adds at most one entry to one table, and changes no entry before it.
use Rattle.std.proofs.Common.{◌≡◌, ℕ, ◌+◌, ◌<◌, Bool, true, false, cond, List, [], ◌∷◌, ◌++◌, length, Option, Some, None, refl, ◌∙◌, ap, append-nil, arith}
use Rattle.std.specs.Prelude.{slice_get}
use Rattle.std.specs.List.{cons_option}
use Rattle.std.specs.Option.{option_or}
use Rattle.std.specs.Str.{bytes_eq}
use Rattle.std.proofs.lemmas.Slice.Eq.{bytes_eq-Decides}
use Rattle.roster_model.specs.Record.{Record, Kind, PeriodRecord, WeightRecord, BaseRecord, CrewRecord, PairingRecord, DutyRecord, SectorRecord, LeaveRecord, CostRecord, AssignRecord, StepRecord, field, word_of, is_of, entry_of, gather_after, entries_of}
use Rattle.roster_model.specs.Problem.{Problem, tables_in}
use Rattle.roster_model.specs.records.Period.{period_in}
use Rattle.roster_model.specs.records.Weight.{weight_in, weight_of, weights_in}
use Rattle.roster_model.specs.records.Base.{base_of}
use Rattle.roster_model.specs.records.Crew.{person_of}
use Rattle.roster_model.specs.records.Pairing.{pairing_of}
use Rattle.roster_model.specs.records.Duty.{Duty, duties_in, duty_of}
use Rattle.roster_model.specs.records.Leave.{leave_of}
use Rattle.roster_model.specs.records.Cost.{cost_of}
use Rattle.roster_model.specs.records.Assign.{assign_of, assigns_in}
use Rattle.roster_model.specs.records.Step.{step_of, steps_in}
use Rattle.roster_model.specs.records.Sector.{GivenSector, flown, flown_from, sector_of, sectors_in}
use Rattle.roster_problem.specs.Sound.{tables_of_period}
use Rattle.roster_book.specs.Draft.{Contents}
use Rattle.roster_book.specs.Flown.{with_sector_at}
use Rattle.roster_book.proofs.Gather.{gather_after-append}
use Rattle.roster_book.proofs.SectorTable.{flown-duty, flown-sector}

-- whether two kinds are one, by their words
abbrev pub is_same : Kind → Kind → Bool
is_same kind other = bytes_eq (word_of kind) (word_of other)

-- a record is of one kind
is_of-other : (kind other : Kind) (fields : Record) → is_of kind fields ≡ true
    → is_of other fields ≡ is_same kind other
is_of-other kind other fields h =
    ap (λ word. bytes_eq word (word_of other)) ((bytes_eq-Decides (field fields 0) (word_of kind)).0 h)

-- a table with one more entry, or as it is
abbrev pub grown : {X : Type 0} → Bool → List X → X → List X
grown true entries entry = entries ++ entry ∷ []
grown false entries entry = entries

grown-by : {X : Type 0} (b : Bool) (entries : List X) (entry : X)
    → entries ++ cons_option (cond b (Some entry) None) [] ≡ grown b entries entry
grown-by true entries entry = refl
grown-by false entries entry = append-nil entries

-- a table grows by records of its own kind alone
pub entries_of-append : {X : Type 0} (kind other : Kind) (made : List Record → Record → X)
    (before : List Record) (fields : Record)
    → is_of kind fields ≡ true → entries_of other made (before ++ fields ∷ []) ≡ grown (is_same kind other) (entries_of other made before) (made before fields)
entries_of-append kind other made before fields h =
    gather_after-append (entry_of other made) [] before fields
    ∙ ap (λ b. entries_of other made before ++ cons_option (cond b (Some (made before fields)) None) []) (is_of-other kind other fields h)
    ∙ grown-by (is_same kind other) (entries_of other made before) (made before fields)

period_in-append : (before : List Record) (fields : Record) → 0 < length before
    → period_in (before ++ fields ∷ []) ≡ period_in before
unfolding period_in
period_in-append [] fields h = absurd (omega arith)
period_in-append (first ∷ rest) fields h = refl

-- a weight with one more given, which counts where none was
abbrev pub weight_with : Bool → Option ℕ → ℕ → Option ℕ
weight_with true given weight = option_or given (Some weight)
weight_with false given weight = given

first_of_grown : (b : Bool) (weights : List ℕ) (weight : ℕ)
    → slice_get (grown b weights weight) 0 ≡ weight_with b (slice_get weights 0) weight
first_of_grown true [] weight = refl
first_of_grown true (first ∷ weights) weight = refl
first_of_grown false weights weight = refl

weight_in-append : (kind : Kind) (before : List Record) (fields : Record) → is_of kind fields ≡ true
    → weight_in (before ++ fields ∷ []) ≡ weight_with (is_same kind WeightRecord) (weight_in before) (weight_of before fields)
weight_in-append kind before fields h =
    ap (λ (weights : List ℕ). slice_get weights 0)
    (entries_of-append kind WeightRecord weight_of before fields h)
    ∙ first_of_grown (is_same kind WeightRecord) (weights_in before) (weight_of before fields)

-- duties with a sector more, or with a duty more
abbrev duties_by : Bool → Bool → GivenSector → Duty → List Duty → List Duty
duties_by true of_duty given duty duties = with_sector_at duties given.duty given.sector
duties_by false of_duty given duty duties = grown of_duty duties duty

-- duties with what a record of the kind adds
abbrev pub duties_with : Kind → List Record → Record → List Duty → List Duty
duties_with kind before fields duties =
    duties_by (is_same kind SectorRecord) (is_same kind DutyRecord) (sector_of before fields)
    (duty_of before fields) duties

duties_by-is : (of_sector of_duty : Bool) (before : List Record) (fields : Record)
    → (of_sector ≡ true → of_duty ≡ false)
    → flown (grown of_sector (sectors_in before) (sector_of before fields)) (grown of_duty (duties_in before) (duty_of before fields))
    ≡ duties_by of_sector of_duty (sector_of before fields) (duty_of before fields) (flown (sectors_in before) (duties_in before))
duties_by-is true true before fields one = cc (one refl)
duties_by-is true false before fields one =
    flown-sector (sectors_in before) (sector_of before fields) (duties_in before)
duties_by-is false true before fields one = flown-duty before fields
duties_by-is false false before fields one = refl

-- no kind is that of sectors and that of duties
one_of_both : (kind : Kind) → is_same kind SectorRecord ≡ true → is_same kind DutyRecord ≡ false
one_of_both kind h =
    ap (λ word. bytes_eq word (word_of DutyRecord))
    ((bytes_eq-Decides (word_of kind) (word_of SectorRecord)).0 h)

-- the tables with what a record of the kind adds
abbrev pub tables_with : Kind → List Record → Record → Problem → Problem
tables_with kind before fields tables = record {
  period = tables.period;
  weight = weight_with (is_same kind WeightRecord) tables.weight (weight_of before fields);
  bases = grown (is_same kind BaseRecord) tables.bases (base_of before fields);
  persons = grown (is_same kind CrewRecord) tables.persons (person_of before fields);
  pairings = grown (is_same kind PairingRecord) tables.pairings (pairing_of before fields);
  duties = duties_with kind before fields tables.duties;
  leaves = grown (is_same kind LeaveRecord) tables.leaves (leave_of before fields);
  costs = grown (is_same kind CostRecord) tables.costs (cost_of before fields);
}

-- what is kept, with what a record of the kind adds
abbrev pub contents_with : Kind → List Record → Record → Contents → Contents
contents_with kind before fields contents = record {
  tables = tables_with kind before fields contents.tables;
  assigns = grown (is_same kind AssignRecord) contents.assigns (assign_of before fields);
  steps = grown (is_same kind StepRecord) contents.steps (step_of before fields);
}

tables_in-grown : (kind : Kind) (before : List Record) (fields : Record) → is_of kind fields ≡ true
    → tables_in (before ++ fields ∷ []) ≡ record (tables_with kind before fields (tables_in before)) { period = period_in (before ++ fields ∷ []) }
tables_in-grown kind before fields h = rw (
  weight_in-append kind before fields h,
  entries_of-append kind BaseRecord base_of before fields h,
  entries_of-append kind CrewRecord person_of before fields h,
  entries_of-append kind PairingRecord pairing_of before fields h,
  entries_of-append kind DutyRecord duty_of before fields h,
  entries_of-append kind SectorRecord sector_of before fields h,
  entries_of-append kind LeaveRecord leave_of before fields h,
  entries_of-append kind CostRecord cost_of before fields h,
  duties_by-is (is_same kind SectorRecord) (is_same kind DutyRecord) before fields (one_of_both kind),
)

-- the month stays that of the first record
pub tables_in-append : (kind : Kind) (before : List Record) (fields : Record) → 0 < length before
    → is_of kind fields ≡ true
    → tables_in (before ++ fields ∷ []) ≡ tables_with kind before fields (tables_in before)
tables_in-append kind before fields begun h =
    tables_in-grown kind before fields h
    ∙ ap (λ month. record (tables_with kind before fields (tables_in before)) { period = month }) (period_in-append before fields begun)

pub tables_in-first : (fields : Record) → is_of PeriodRecord fields ≡ true
    → tables_in (fields ∷ []) ≡ tables_of_period (period_in (fields ∷ []))
unfolding gather_after flown_from
tables_in-first fields h = tables_in-grown PeriodRecord [] fields h

-- the sectors of a period alone
pub no_sector : (fields : Record) → is_of PeriodRecord fields ≡ true → sectors_in (fields ∷ []) ≡ []
unfolding gather_after
no_sector fields h = rw (is_of-other PeriodRecord SectorRecord fields h) refl

-- the assignments of a period alone
pub no_assign : (fields : Record) → is_of PeriodRecord fields ≡ true → assigns_in (fields ∷ []) ≡ []
unfolding gather_after
no_assign fields h = rw (is_of-other PeriodRecord AssignRecord fields h) refl

-- the steps of a period alone
pub no_step : (fields : Record) → is_of PeriodRecord fields ≡ true → steps_in (fields ∷ []) ≡ []
unfolding gather_after
no_step fields h = rw (is_of-other PeriodRecord StepRecord fields h) refl

-- how many records gave a weight
abbrev pub weight_count : Option ℕ → ℕ
weight_count None = 0
weight_count (Some weight) = 1

-- how many entries the tables have
abbrev pub entries : Problem → ℕ
entries t = weight_count t.weight + length t.bases + length t.persons + length t.pairings + length t.duties + length t.leaves + length t.costs
