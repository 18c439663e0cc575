-- A search over paths: what a path begins with, and what comes of it.
use Rattle.std.specs.Prelude.{◌≡◌, ℕ, ◌+◌, ◌-◌, ◌*◌, ◌<◌, ◌≤◌, ◌⊎◌, true, List, [], ◌∷◌, ◌++◌, length, Option, Some, MatchOption, slice_index, ℤ, ◌+ℤ◌, ◌≤ℤ◌, All}
use Rattle.roster_model.specs.declared.limits.TheConstants.{MOST_PAIRINGS}
use Rattle.roster_model.specs.Costs.{total}
use Rattle.roster_model.specs.Rules.{is_among}
use Rattle.roster_cost.specs.Amounts.{minutes_of_pairing, IsWithin}
use Rattle.roster_plan_bound.specs.declared.parts.TheConstants.{MOST_CHAIN_VALUE, MOST_FLIGHT, MOST_LOAD}
use Rattle.roster_plan_bound.specs.declared.seek.End.{End}
use Rattle.roster_plan_bound.specs.declared.seek.Spot.{Spot}
use Rattle.roster_plan_bound.specs.declared.timeline.Timeline.{Timeline}
use Rattle.roster_plan_bound.specs.Chains.{value_at}
use Rattle.roster_plan_bound.specs.Prospects.{gain_of, Outlook}
use Rattle.roster_plan_bound.specs.Spans.{IsBegun}
use Rattle.roster_plan_bound.specs.Timelines.{begin_of, class_of, flight_along, load_along, need_behind, need_first, unrested_after, IsOwed, IsPath}

-- what a path brings
abbrev pub gain : Outlook → List ℕ → ℤ
gain outlook path = gain_of outlook.problem outlook.person outlook.units path

-- The path begins with pairings of which this is the last one; since the instant of the class no recurrent
-- rest lies before its end, and from its begin on so many pairs of days off still have to come.
pub record EndsAt (outlook : Outlook) (class need : ℕ) (before rest : List ℕ) (last : ℕ) : Type 0 where
  pub front : List ℕ
  pub is : before ≡ front ++ last ∷ []
  pub begun : IsBegun outlook.problem outlook.person (before ++ rest) last (begin_of outlook.timeline class)
  pub early : class ≤ class_of outlook.timeline last
  pub owed : IsOwed outlook.problem outlook.person outlook.timeline (before ++ rest) last need

-- a path begins with what the spot stands for, and goes on with what may stand behind it
pub record IsStart (outlook : Outlook) (spot : Spot) (before rest : List ℕ) : Type 0 where
  pub path : IsPath outlook.problem outlook.person outlook.timeline (before ++ rest)
  pub members : (p : ℕ) → is_among before p ≡ is_among spot.set p
  pub ends : (last : ℕ) → spot.last ≡ Some last → EndsAt outlook spot.end.class spot.end.need before rest last
  pub value : spot.end.value ≡ total (value_at outlook.units) before
  pub flight : spot.end.flight ≡ flight_along outlook.problem outlook.person before
  pub load : spot.end.load ≡ load_along outlook.timeline before
  pub may : (p : ℕ) → is_among rest p ≡ true → is_among spot.may p ≡ true

-- no path that begins with the spot brings less
abbrev pub IsLeastFrom : Outlook → Spot → ℤ → Type 0
IsLeastFrom outlook spot least =
    (before rest : List ℕ) → IsStart outlook spot before rest → least ≤ℤ gain outlook (before ++ rest)

-- nor does one that goes on with pairing q
abbrev pub IsLeastWith : Outlook → Spot → ℕ → ℤ → Type 0
IsLeastWith outlook spot q least =
    (before rest : List ℕ) → IsStart outlook spot before (q ∷ rest)
    → least ≤ℤ gain outlook (before ++ q ∷ rest)

-- nor does one that ends there, or goes on with a pairing before that place
abbrev pub IsLeastBelow : Outlook → Spot → ℕ → ℤ → Type 0
IsLeastBelow outlook spot from least =
    (before rest : List ℕ) → IsStart outlook spot before rest
    → ((q : ℕ) (behind : List ℕ) → rest ≡ q ∷ behind → q < from)
    → least ≤ℤ gain outlook (before ++ rest)

-- A spot's places are those of pairings, and its amounts are within what its pairings allow, of which there
-- are as many as there is less room behind them.
pub record IsSpot (outlook : Outlook) (spot : Spot) : Type 0 where
  pub last : (p : ℕ) → spot.last ≡ Some p → p < length outlook.problem.pairings
  pub set : All (λ p. p < length outlook.problem.pairings) spot.set
  pub may : (p : ℕ) → is_among spot.may p ≡ true → p < length outlook.problem.pairings
  pub room : spot.room ≤ MOST_PAIRINGS
  pub value : IsWithin ((MOST_PAIRINGS - spot.room) * MOST_CHAIN_VALUE) spot.end.value
  pub flight : spot.end.flight ≤ (MOST_PAIRINGS - spot.room) * MOST_FLIGHT
  pub load : spot.end.load ≤ (MOST_PAIRINGS - spot.room) * MOST_LOAD

-- the class of pairing q behind the last one: the same, if no recurrent rest lies between, or its own
abbrev pub IsClassWith : Timeline → Spot → ℕ → ℕ → Type 0
IsClassWith timeline spot q class =
    ((last : ℕ) × (spot.last ≡ Some last) × (is_among (unrested_after timeline last) q ≡ true)
    × (class ≡ spot.end.class))
    ⊎ (class ≡ class_of timeline q)

-- how many pairs of days off still have to come from pairing q on, behind the last one or as the first
abbrev pub IsNeedWith : Timeline → Spot → ℕ → ℕ → Type 0
IsNeedWith timeline spot q need =
    ((last : ℕ) × (spot.last ≡ Some last) × (need ≡ need_behind timeline last q spot.end.need))
    ⊎ (need ≡ need_first timeline q)

-- the end with pairing q behind the last one
pub record IsEndWith (outlook : Outlook) (spot : Spot) (q : ℕ) (end : End) : Type 0 where
  pub class : IsClassWith outlook.timeline spot q end.class
  pub value : end.value ≡ spot.end.value +ℤ value_at outlook.units q
  pub small : IsWithin MOST_CHAIN_VALUE (value_at outlook.units q)
  pub flight : end.flight ≡ spot.end.flight + minutes_of_pairing outlook.problem outlook.person q
  pub few : minutes_of_pairing outlook.problem outlook.person q ≤ MOST_FLIGHT
  pub load : end.load ≡ spot.end.load + slice_index outlook.timeline.loads.items q
  pub light : slice_index outlook.timeline.loads.items q ≤ MOST_LOAD
  pub need : IsNeedWith outlook.timeline spot q end.need

-- each path that begins with the spot, and goes on with pairing q, begins with the next spot
abbrev pub LeadsTo : Outlook → Spot → ℕ → Spot → Type 0
LeadsTo outlook spot q next =
    (before rest : List ℕ) → IsStart outlook spot before (q ∷ rest)
    → IsStart outlook next (before ++ q ∷ []) rest

-- the spot with one pairing behind
pub record IsNextSpot (outlook : Outlook) (spot : Spot) (q : ℕ) (next : Spot) : Type 0 where
  pub is : IsSpot outlook next
  pub last : next.last ≡ Some q
  pub room : next.room + 1 ≡ spot.room
  pub leads : LeadsTo outlook spot q next

-- the next spot, or nothing, and then no path that goes on with the pairing brings less
abbrev pub IsOnward : Outlook → Spot → ℕ → ℤ → Option Spot → Type 0
IsOnward outlook spot q least found =
    MatchOption found (IsLeastWith outlook spot q least) (IsNextSpot outlook spot q)
