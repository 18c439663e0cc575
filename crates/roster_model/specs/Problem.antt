-- What is to be rostered: the tables that the records of a book make.
use Rattle.std.specs.Prelude.{ℕ, Bool, ◌&&◌, ◌||◌, ◌==◌, nat_lt, if◌then◌else◌, List, [], ◌∷◌, ℤ, pos, Option, option_map, unwrap_or, slice_get}
use Rattle.std.specs.List.{fold, filter}
use Rattle.roster_model.specs.Calendar.{Period}
use Rattle.roster_model.specs.Record.{Record}
use Rattle.roster_model.specs.records.Period.{period_in}
use Rattle.roster_model.specs.records.Weight.{weight_in}
use Rattle.roster_model.specs.records.Base.{Base, bases_in}
use Rattle.roster_model.specs.records.Crew.{Person, persons_in, home_at}
use Rattle.roster_model.specs.records.Pairing.{Pairing, pairings_in}
use Rattle.roster_model.specs.records.Duty.{Duty, duties_in}
use Rattle.roster_model.specs.records.Sector.{sectors_in, flown}
use Rattle.roster_model.specs.records.Leave.{Leave, leaves_in, is_leave_of}
use Rattle.roster_model.specs.records.Cost.{Cost, costs_in, units_given}

-- A month, the weight of targets, if it is given, and bases, persons, pairings, duties, leaves and costs.
-- A base, a person and a pairing is named by its place in book order, from 0.
pub record Problem : Type 0 where
  pub period : Period
  pub weight : Option ℕ
  pub bases : List Base
  pub persons : List Person
  pub pairings : List Pairing
  pub duties : List Duty
  pub leaves : List Leave
  pub costs : List Cost

-- the tables of some records, in their order; each duty has the sectors that name it
abbrev pub tables_in : List Record → Problem
tables_in records = record {
  period = period_in records;
  weight = weight_in records;
  bases = bases_in records;
  persons = persons_in records;
  pairings = pairings_in records;
  duties = flown (sectors_in records) (duties_in records);
  leaves = leaves_in records;
  costs = costs_in records;
}

-- ---- the order of duties

-- a stands before b: by report, then by release, then by its row
abbrev pub precedes : Duty → Duty → Bool
precedes a b =
    nat_lt a.report b.report || (a.report == b.report)
    && (nat_lt a.release b.release || (a.release == b.release) && nat_lt a.row b.row)

-- the duties with one more, before the first that it precedes
abbrev pub insert_duty : Duty → List Duty → List Duty
insert_duty duty [] = duty ∷ []
insert_duty duty (first ∷ rest) =
    if precedes duty first then duty ∷ first ∷ rest else first ∷ insert_duty duty rest

-- the same duties in their order in time
unfoldable pub in_order : List Duty → List Duty
in_order duties = fold (λ sorted duty. insert_duty duty sorted) [] duties

-- ---- the problem of a book

-- the tables of its records, and the duties in their order in time
abbrev pub problem_of : List Record → Problem
problem_of records = record (tables_in records) { duties = in_order (tables_in records).duties }

-- the base of the person at place k
abbrev pub home_of : Problem → ℕ → Base
home_of problem k = home_at problem.bases problem.persons k

-- the leaves of the person at place k
abbrev pub leaves_of : Problem → ℕ → List Leave
leaves_of problem k = filter (is_leave_of k) problem.leaves

-- what it costs that a person's flight in the month misses the target by a minute; nothing if it isn't
-- given
abbrev pub weight_of : Problem → ℕ
weight_of problem = unwrap_or problem.weight 0

-- the cost units of the pairing at place p with the person at place k; none if they aren't given
abbrev pub units_of : Problem → ℕ → ℕ → ℤ
units_of problem k p = unwrap_or (units_given problem.costs k p) (pos 0)

-- the minutes of flight in the month that are wanted of the person at place k
abbrev pub target_of : Problem → ℕ → ℕ
target_of problem k = unwrap_or (option_map (λ person. person.target) (slice_get problem.persons k)) 0

-- The minutes that the person at place k has flown before the month: in its calendar year, and in the
-- eleven calendar months before it.
abbrev pub year_of : Problem → ℕ → ℕ
year_of problem k = unwrap_or (option_map (λ person. person.year) (slice_get problem.persons k)) 0

abbrev pub eleven_of : Problem → ℕ → ℕ
eleven_of problem k = unwrap_or (option_map (λ person. person.eleven) (slice_get problem.persons k)) 0

-- the name of the pairing at place p
abbrev pub pairing_name : Problem → ℕ → List ℕ
pairing_name problem p = unwrap_or (option_map (λ pairing. pairing.id) (slice_get problem.pairings p)) []
