-- The network of a person: which pairings may follow one another, and what flight costs at the end.
use Rattle.std.specs.Prelude.{◌≡◌, ℕ, ◌+◌, ◌*◌, ◌-◌, ◌<◌, ◌≤◌, List, [], length, slice_get, slice_index, IfSome, Option, Some, ℤ, pos, ◌-ℤ◌, ◌*ℤ◌, ◌≤ℤ◌, All}
use Rattle.roster_model.specs.Costs.{distance, flight_of}
use Rattle.roster_model.specs.Problem.{Problem, target_of, units_of, weight_of}
use Rattle.roster_cost.specs.Amounts.{IsWithin, minutes_of_pairing}
use Rattle.roster_lines.specs.declared.pairs.Pairs.{Pairs}
use Rattle.roster_lines.specs.Listing.{AreAllPairs, AreAlone, IsRow as AreFollowers}
use Rattle.roster_plan_bound.specs.declared.network.Network.{Network}
use Rattle.roster_plan_bound.specs.declared.timeline.Timeline.{Timeline}
use Rattle.roster_plan_bound.specs.declared.parts.TheConstants.{MOST_TARGET_TERM, MOST_CHAIN_VALUE, PARTS}
use Rattle.roster_plan_bound.specs.Chains.{followers_of, next_state, value_at, IsRow, IsTail}
use Rattle.roster_plan_bound.specs.Reduced.{price_at}
use Rattle.roster_plan_bound.specs.Timelines.{IsTimeline}

-- what it costs that person k has so much flight, targets as they are, in parts of a cost unit
abbrev pub missed_at : Problem → ℕ → ℕ → ℤ
missed_at problem k flight = pos PARTS *ℤ pos (weight_of problem * distance flight (target_of problem k))

-- each state brings at the end no more than the flight costs, above what none but that of fixed duties does
abbrev pub AreTerms : Problem → ℕ → ℕ → List ℤ → Type 0
AreTerms problem k step terms =
    (steps : ℕ)
    → value_at terms (next_state (length terms) 0 steps)
    ≤ℤ (missed_at problem k (flight_of problem k [] + steps * step) -ℤ missed_at problem k (flight_of problem k []))

-- the flight of each pairing is so many steps
pub record AreSteps (problem : Problem) (k step : ℕ) (steps : List ℕ) : Type 0 where
  pub covers : length steps ≡ length problem.pairings
  pub each : (p : ℕ) → p < length problem.pairings
      → slice_index steps p * step ≡ minutes_of_pairing problem k p

-- which pairings may follow which, and where a chain may begin
pub record IsNetwork (problem : Problem) (k : ℕ) (network : Network) : Type 0 where
  pub alone : AreAlone problem k network.first
  pub covers : length network.followers.items ≡ length problem.pairings
  pub followers : (p : ℕ) (row : List ℕ) → slice_get network.followers.items p ≡ Some row
      → AreFollowers problem k p row
  pub step : ℕ
  pub steps : AreSteps problem k step network.steps.items
  pub terms : AreTerms problem k step network.terms.items
  pub some : 0 < length network.terms.items
  pub within : All (IsWithin MOST_TARGET_TERM) network.terms.items

-- what each pairing brings
pub record AreValues (problem : Problem) (prices : List ℤ) (k : ℕ) (values : List ℤ) : Type 0 where
  pub covers : length values ≡ length problem.pairings
  pub each : (p : ℕ) → p < length problem.pairings
      → value_at values p ≡ (pos PARTS *ℤ units_of problem k p) -ℤ price_at prices p
  pub within : All (IsWithin MOST_CHAIN_VALUE) values

-- the rows of the problem's last pairings, that of the last one first: for each the chains of those that may
-- follow it
pub record AreRows (problem : Problem) (network : Network) (values : List ℤ)
    (rows : List (List ℤ)) : Type 0 where
  pub few : length rows ≤ length problem.pairings
  pub each : (p : ℕ) (row : List ℤ) → p < length problem.pairings
      → slice_get rows (length problem.pairings - 1 - p) ≡ Some row
      → IsRow network values (followers_of network.followers.items p) row
  pub within : All (λ row. All (IsWithin (MOST_TARGET_TERM + length rows * MOST_CHAIN_VALUE)) row) rows

-- the tails, the shortest one first, which is that behind the problem's last pairing
pub record AreTails (problem : Problem) (network : Network) (values : List ℤ)
    (tails : List (List ℤ)) : Type 0 where
  pub each : (i : ℕ) (tail : List ℤ) → i ≤ length problem.pairings → slice_get tails i ≡ Some tail
      → IsTail network values (length problem.pairings - i) tail
  pub within : All (λ tail. All (IsWithin (MOST_TARGET_TERM + length tails * MOST_CHAIN_VALUE)) tail) tails

-- the rows of so many of the last pairings, and the tails, which are one more
pub record AreSoFar (problem : Problem) (network : Network) (values : List ℤ)
    (rows tails : List (List ℤ)) (back : ℕ) : Type 0 where
  pub are_rows : AreRows problem network values rows
  pub long : length rows ≡ back
  pub are_tails : AreTails problem network values tails
  pub longer : length tails ≡ back + 1

-- the network of each person
pub record AreNetworks (problem : Problem) (networks : List Network) : Type 0 where
  pub covers : length networks ≡ length problem.persons
  pub each : (k : ℕ) (network : Network) → slice_get networks k ≡ Some network → IsNetwork problem k network

-- the timeline of each person who has one
pub record AreTimelines (problem : Problem) (timelines : List (Option Timeline)) : Type 0 where
  pub covers : length timelines ≡ length problem.persons
  pub each : (k : ℕ) (found : Option Timeline) → slice_get timelines k ≡ Some found
      → IfSome found (IsTimeline problem k)

-- the pairs, the network and the timeline of each person
pub record IsPricing (problem : Problem) (pairs : List Pairs) (networks : List Network)
    (timelines : List (Option Timeline)) : Type 0 where
  pub judged : AreAllPairs problem pairs
  pub are : AreNetworks problem networks
  pub timed : AreTimelines problem timelines
