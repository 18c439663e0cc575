-- What prices say of the rosters of one base.
use Rattle.std.specs.Prelude.{◌≡◌, ℕ, ◌*◌, ◌<◌, List, length, ℤ, pos, ◌+ℤ◌, ◌-ℤ◌, ◌*ℤ◌, ◌≤ℤ◌, All, IfOk, Some, slice_get}
use Rattle.roster_model.specs.Costs.{cost_of}
use Rattle.roster_model.specs.Places.{set_of}
use Rattle.roster_model.specs.Problem.{Problem}
use Rattle.roster_cost.specs.Amounts.{IsWithin}
use Rattle.roster_bases.specs.Bases.{only, persons_of}
use Rattle.roster_bases.specs.Homes.{EachHomeRoster, IsHomeBound}
use Rattle.roster_plan_bound.specs.declared.parts.TheConstants.{MOST_LEAST, PARTS}
use Rattle.roster_plan_bound.specs.Chains.{value_at}
use Rattle.roster_plan_bound.specs.declared.persons.Seen.{Seen}
use Rattle.roster_plan_bound.specs.Reduced.{reduced, reduced_costs, ArePrices, IsLeastOf}

-- What the reduced costs of the first persons are at least in rosters of the base, and the sum. In such a
-- roster no person's is further above its least than all of them are above the sum.
pub record AreLeasts (problem : Problem) (prices : List ℤ) (base count : ℕ) (sum : ℤ)
    (each : List ℤ) : Type 0 where
  pub covers : length each ≡ count
  pub small : All (IsWithin MOST_LEAST) each
  pub within : IsWithin (count * MOST_LEAST) sum
  pub below : EachHomeRoster problem (only base) (λ places. sum ≤ℤ reduced_costs problem prices count places)
  pub near : EachHomeRoster problem (only base) (λ places. (k : ℕ) → k < count
      → (reduced problem prices k (set_of k places) -ℤ value_at each k)
      ≤ℤ (reduced_costs problem prices count places -ℤ sum))

-- the look at person k tells what none of its lines is below in reduced cost, unless memory ran out
abbrev pub IsSeen : Problem → List ℤ → ℕ → Seen → Type 0
IsSeen problem prices k seen = IfOk seen.least (IsLeastOf problem prices k)

-- so it is with each of these persons
pub record AreSeen (problem : Problem) (prices : List ℤ) (persons : List ℕ) (all : List Seen) : Type 0 where
  pub covers : length all ≡ length persons
  pub each : (i k : ℕ) (seen : Seen) → slice_get persons i ≡ Some k → slice_get all i ≡ Some seen
      → IsSeen problem prices k seen

-- No legal roster of the base costs less than the bound. In one that costs so many units more, no person's
-- reduced cost is further above its least than that, rounded up.
pub record IsLook (problem : Problem) (prices : List ℤ) (base : ℕ) (bound : ℤ)
    (leasts : List ℤ) : Type 0 where
  pub bounded : IsHomeBound problem (only base) bound
  pub covers : length leasts ≡ length problem.persons
  pub small : All (IsWithin MOST_LEAST) leasts
  pub near : EachHomeRoster problem (only base) (λ places. (k : ℕ) → k < length problem.persons
      → (reduced problem prices k (set_of k places) -ℤ value_at leasts k)
      ≤ℤ (pos PARTS *ℤ ((cost_of problem places -ℤ bound) +ℤ pos 1)))

-- a problem, one of its bases, and what no roster of the base costs less than
pub record Bounded : Type 0 where
  pub problem : Problem
  pub base : ℕ
  pub bound : ℤ

-- the persons of the base, as many as were seen, prices within their limits, and what these say
pub record IsPricedBound (problem : Problem) (base : ℕ) (persons : List ℕ) (seen : ℕ) (prices leasts : List ℤ)
    (bound : ℤ) : Type 0 where
  pub home : persons ≡ persons_of problem base
  pub all : seen ≡ length persons
  pub priced : ArePrices problem prices
  pub look : IsLook problem prices base bound leasts
