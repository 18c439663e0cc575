-- The tables of a problem as the definitions see them, and what those of records without a fault keep, as
-- far as code counts on it.
use Rattle.std.specs.Prelude.{ℕ, ◌<◌, ◌≤◌, [], length, None, unsigned_abs, All}
use Rattle.roster_model.specs.declared.limits.TheConstants.{MOST_BASES, MOST_PERSONS, MOST_PAIRINGS, MOST_DUTIES, MOST_LEAVES, MOST_COSTS, MOST_MINUTES, MOST_PENALTY, MOST_UNITS, MOST_WEIGHT}
use Rattle.roster_model.specs.Calendar.{Period}
use Rattle.roster_model.specs.Problem.{Problem, in_order, weight_of}
use Rattle.roster_model.specs.records.Duty.{Holder, OfPairing, OfPerson}
use Rattle.roster_problem.specs.declared.tables.BookTables.{BookTables}

-- the tables, without where they lie in memory
abbrev pub tables_of : BookTables → Problem
tables_of t = record {
  period = t.period;
  weight = t.weight;
  bases = t.bases.items;
  persons = t.persons.items;
  pairings = t.pairings.items;
  duties = t.duties.items;
  leaves = t.leaves.items;
  costs = t.costs;
}

-- those of a month alone
abbrev pub tables_of_period : Period → Problem
tables_of_period period = record { period = period; weight = None; bases = []; persons = []; pairings = []; duties = []; leaves = []; costs = [] }

-- those of a book, with the duties in their order in time
abbrev pub ordered : BookTables → Problem
ordered t = record (tables_of t) { duties = in_order t.duties.items }

-- the holder is among so many pairings or persons
abbrev pub IsHolder : ℕ → ℕ → Holder → Type 0
IsHolder pairings persons (OfPairing p) = p < pairings
IsHolder pairings persons (OfPerson k) = k < persons

pub record IsSound (problem : Problem) : Type 0 where
  -- no table is longer than its limit
  pub bases : length problem.bases ≤ MOST_BASES
  pub persons : length problem.persons ≤ MOST_PERSONS
  pub pairings : length problem.pairings ≤ MOST_PAIRINGS
  pub duties : length problem.duties ≤ MOST_DUTIES
  pub leaves : length problem.leaves ≤ MOST_LEAVES
  pub costs : length problem.costs ≤ MOST_COSTS
  -- no amount that costs are made of is beyond its limit
  pub weight : weight_of problem ≤ MOST_WEIGHT
  pub targets : All (λ person. person.target ≤ MOST_MINUTES) problem.persons
  pub penalties : All (λ pairing. pairing.penalty ≤ MOST_PENALTY) problem.pairings
  pub units : All (λ cost. unsigned_abs cost.units ≤ MOST_UNITS) problem.costs
  -- what is referred to is there
  pub homes : All (λ person. person.base < length problem.bases) problem.persons
  pub starts : All (λ pairing. pairing.base < length problem.bases) problem.pairings
  pub holders : All
      (λ duty. IsHolder (length problem.pairings) (length problem.persons) duty.holder) problem.duties
  pub absences : All (λ leave. leave.person < length problem.persons) problem.leaves
  pub cost_persons : All (λ cost. cost.person < length problem.persons) problem.costs
  pub cost_pairings : All (λ cost. cost.pairing < length problem.pairings) problem.costs
