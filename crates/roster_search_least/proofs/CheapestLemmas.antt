-- How a cheapest roster of a region is closed in on.
use Rattle.std.proofs.Common.{◌≡◌, ℕ, ◌+◌, ◌-◌, ◌<◌, inl, inr, List, Option, Some, ℤ, ◌<ℤ◌, ◌≤ℤ◌, subst, arith}
use borrow.Author.Differences.{up, down}
use Rattle.std.proofs.lemmas.Int.{ints}
use Rattle.roster_model.specs.Costs.{cost_of}
use Rattle.roster_model.specs.Problem.{Problem}
use Rattle.roster_model.specs.Rosters.{Key}
use Rattle.roster_model.specs.Settled.{CostsMore}
use Rattle.roster_search_regions.specs.Regions.{IsIn, Region}
use Rattle.roster_search_least.specs.Least.{CostsAtLeast, IsCheapestBelow, IsCheapestWithin}

-- what is found in a copy of a region is found in the region
pub found_in_copy : (problem : Problem) (here copied : Region) (most enough : ℤ) (found : Option Key)
    → copied ≡ here → IsCheapestWithin problem (IsIn problem copied) most enough found
    → IsCheapestWithin problem (IsIn problem here) most enough found
found_in_copy problem here copied most enough found same is =
    subst (λ region. IsCheapestWithin problem (IsIn problem region) most enough found) same is

-- if none costs so little, each costs at least what one may cost that costs more
pub raised_least : (problem : Problem) (Region : List ℕ → Type 0) (most low : ℤ)
    → CostsMore problem Region most
    → ((places : List ℕ) → Region places → most <ℤ cost_of problem places → low ≤ℤ cost_of problem places)
    → CostsAtLeast problem Region low
raised_least problem Region most low none least =
    λ others legal inside. least others inside (none others legal inside)

-- what is found is a cheapest one, if none costs less than is enough
pub cheapest_found : (problem : Problem) (Region : List ℕ → Type 0) (most least limit : ℤ) (key : Key)
    → CostsAtLeast problem Region least → most <ℤ limit
    → IsCheapestWithin problem Region most least (Some key)
    → IsCheapestBelow problem Region limit (Some key)
cheapest_found problem Region most least limit key none below found =
    let within = found.0.within in (
      record {
        held = found.0.held;
        inside = found.0.inside;
        least = elim found.1 [
          | inl enough ↦ λ others legal inside. let above = none others legal inside in omega (arith, ints)
          | inr cheapest ↦ cheapest
        ];
      },
      omega (arith, ints),
    )

-- ---- the loop ends

-- how far the second number is above the first
abbrev pub distance_up : ℤ → ℤ → ℕ
distance_up low high = (up high + down low) - (up low + down high)

pub less_below : (low more high : ℤ) → low <ℤ more → low <ℤ high
    → distance_up more high < distance_up low high
less_below low more high some less = omega (arith, ints)
