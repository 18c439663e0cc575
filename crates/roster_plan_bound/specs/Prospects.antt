-- What paths of a person bring at some prices, and tables that say what all of them bring at least.
use Rattle.std.specs.Prelude.{◌≡◌, ℕ, ◌+◌, ◌*◌, ◌<◌, ◌≤◌, List, ◌∷◌, ◌++◌, [], length, slice_index, ℤ, pos, ◌+ℤ◌, ◌-ℤ◌, ◌*ℤ◌, ◌≤ℤ◌, unsigned_abs, All}
use Rattle.roster_model.specs.Costs.{flight_of, total}
use Rattle.roster_model.specs.Problem.{Problem, target_of, weight_of}
use Rattle.roster_cost.specs.Amounts.{minutes_of_pairing, IsWithin}
use Rattle.roster_plan_bound.specs.declared.parts.TheConstants.{MOST_BESIDE, MOST_SHORT, MOST_TOLL, MOST_WORTH, PARTS}
use Rattle.roster_plan_bound.specs.declared.worths.WorthTable.{WorthTable}
use Rattle.roster_plan_bound.specs.declared.timeline.Timeline.{Timeline}
use Rattle.roster_plan_bound.specs.Behinds.{AreBehind}
use Rattle.roster_plan_bound.specs.Chains.{value_at}
use Rattle.roster_plan_bound.specs.Networks.{missed_at, AreValues}
use Rattle.roster_plan_bound.specs.Reduced.{ArePrices}
use Rattle.roster_plan_bound.specs.Spans.{IsBegun}
use Rattle.roster_plan_bound.specs.Timelines.{begin_of, class_of, flight_along, load_along, spare_flight, AreValued, IsOwed, IsPath, IsTimeline}

-- what so much flight beyond the fixed one costs, targets as they are, in parts of a cost unit
abbrev pub term_of : Problem → ℕ → ℕ → ℤ
term_of problem k flight =
    missed_at problem k (flight_of problem k [] + flight) -ℤ missed_at problem k (flight_of problem k [])

-- what a path brings: its pairings' units less their prices, and what its flight costs
abbrev pub gain_of : Problem → ℕ → List ℤ → List ℕ → ℤ
gain_of problem k units path = total (value_at units) path +ℤ term_of problem k (flight_along problem k path)

-- no path brings less
abbrev pub IsLeastPath : Problem → ℕ → Timeline → List ℤ → ℤ → Type 0
IsLeastPath problem k timeline units least =
    (path : List ℕ) → IsPath problem k timeline path → least ≤ℤ gain_of problem k units path

-- by how many minutes the fixed flight is beyond the target
abbrev pub short_of : Problem → ℕ → ℤ
short_of problem k = pos (flight_of problem k []) -ℤ pos (target_of problem k)

-- what each pairing brings if each minute of flight costs so much
pub record AreWorth (problem : Problem) (k : ℕ) (units : List ℤ) (worth : ℤ) (values : List ℤ) : Type 0 where
  pub covers : length values ≡ length problem.pairings
  pub each : (p : ℕ) → p < length problem.pairings
      → value_at values p ≡ value_at units p +ℤ (worth *ℤ pos (minutes_of_pairing problem k p))

-- what each pairing brings if each minute of its load costs so much
pub record AreLaden (problem : Problem) (timeline : Timeline) (units : List ℤ) (toll : ℤ)
    (laden : List ℤ) : Type 0 where
  pub covers : length laden ≡ length problem.pairings
  pub each : (p : ℕ) → p < length problem.pairings
      → value_at laden p ≡ value_at units p +ℤ (toll *ℤ pos (slice_index timeline.loads.items p))

-- By the worth so much flight beyond a target costs no less, if there is no more than may be spared.
abbrev pub IsFixed : ℤ → ℤ → ℤ → ℕ → ℤ → Type 0
IsFixed worth weight short spare fixed =
    (flight : ℕ) → flight ≤ spare → ((worth *ℤ pos flight) +ℤ fixed)
    ≤ℤ ((weight *ℤ pos (unsigned_abs (short +ℤ pos flight))) -ℤ (weight *ℤ pos (unsigned_abs short)))

-- A table at what a minute of flight costs, and one of a load. To miss the target costs no less, by the flight that
-- limits leave, and the loads that there may be cost no more.
pub record IsTable (problem : Problem) (k : ℕ) (timeline : Timeline) (units : List ℤ)
    (table : WorthTable) : Type 0 where
  pub laden : List ℤ
  pub values : List ℤ
  pub loads : AreLaden problem timeline units table.toll laden
  pub worths : AreWorth problem k laden table.worth values
  pub valued : AreValued problem k timeline values
  pub behind : AreBehind problem k timeline values table.behind
  pub small : IsWithin MOST_WORTH table.worth
  pub some : pos 0 ≤ℤ table.toll
  pub light : table.toll ≤ℤ pos MOST_TOLL
  pub fixed : IsFixed table.worth (pos (PARTS * weight_of problem)) (short_of problem k) (spare_flight problem k)
      (table.fixed +ℤ (table.toll *ℤ pos timeline.spare_load))
  pub near : IsWithin MOST_BESIDE table.fixed

-- a person's timeline, what each pairing brings at the prices, and tables
pub record IsProspect (problem : Problem) (k : ℕ) (timeline : Timeline) (prices units : List ℤ)
    (tables : List WorthTable) (weight short : ℤ) (spare : ℕ) : Type 0 where
  pub person : k < length problem.persons
  pub is_timeline : IsTimeline problem k timeline
  pub are_prices : ArePrices problem prices
  pub are_units : AreValues problem prices k units
  pub are_tables : All (IsTable problem k timeline units) tables
  pub is_weight : weight ≡ pos (PARTS * weight_of problem)
  pub is_short : short ≡ short_of problem k
  pub small : IsWithin MOST_SHORT short
  pub is_spare : spare ≡ spare_flight problem k

-- What begins with some path that ends with pairing q brings no less, if the path has that value, flight and load,
-- since the instant of the class no recurrent rest lies before its end, and so many pairs of days off still
-- have to come from the begin of q on.
abbrev pub IsAhead : Problem → ℕ → Timeline → List ℤ → ℤ → ℕ → ℕ → ℕ → ℕ → ℕ → ℤ → Type 0
IsAhead problem k timeline units value flight load q class need least =
    (before rest : List ℕ) → IsPath problem k timeline (before ++ q ∷ rest)
    → IsBegun problem k (before ++ q ∷ rest) q (begin_of timeline class)
    → class ≤ class_of timeline q
    → IsOwed problem k timeline (before ++ q ∷ rest) q need
    → value ≡ total (value_at units) (before ++ q ∷ [])
    → flight ≡ flight_along problem k (before ++ q ∷ [])
    → load ≡ load_along timeline (before ++ q ∷ [])
    → least ≤ℤ gain_of problem k units (before ++ q ∷ rest)

-- a problem, one of its persons with their timeline, prices, and what each pairing brings at them
pub record Outlook : Type 0 where
  pub problem : Problem
  pub person : ℕ
  pub timeline : Timeline
  pub prices : List ℤ
  pub units : List ℤ
