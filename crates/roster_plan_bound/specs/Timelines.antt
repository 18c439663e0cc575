-- The pairings of a person in order of time.
use Rattle.std.specs.Prelude.{◌≡◌, ℕ, ◌-◌, ◌<◌, ◌≤◌, min, List, [], length, slice_get, slice_index, slice_index_or, true, Some, ℤ, All}
use Rattle.std.specs.List.{sum_by}
use Rattle.roster_model.specs.declared.profile.TheConstants.{MOST_FLIGHT_IN_12_MONTHS, MOST_FLIGHT_IN_A_YEAR}
use Rattle.roster_model.specs.Costs.{flight_of}
use Rattle.roster_model.specs.Problem.{Problem, eleven_of, home_of, year_of}
use Rattle.roster_model.specs.Rules.{duty_list, is_among, IsLegal}
use Rattle.roster_lines.specs.Listing.{AreAlone, AreFlights}
use Rattle.roster_plan_bound.specs.declared.days_off.DaysOff.{DaysOff}
use Rattle.roster_plan_bound.specs.declared.timeline.Timeline.{Timeline}
use Rattle.roster_model.specs.declared.limits.TheConstants.{LAST_INSTANT, MOST_PAIRINGS}
use Rattle.roster_cost.specs.Amounts.{minutes_of_pairing, IsWithin}
use Rattle.roster_plan_bound.specs.declared.parts.TheConstants.{MOST_FLIGHT, MOST_STEP}
use Rattle.roster_plan_bound.specs.DaysOffs.{pairs_by, HasPairsFrom}
use Rattle.roster_plan_bound.specs.Loads.{AreLoads}
use Rattle.roster_plan_bound.specs.Spans.{IsBegun}
use Rattle.roster_plan_bound.specs.Ranked.{IsRanked}

-- where the pairing at place p stands
abbrev pub rank_of : Timeline → ℕ → ℕ
rank_of timeline p = slice_index timeline.ranks.items p

-- those that may follow it, and those of them before which no recurrent rest lies
abbrev pub later_than : Timeline → ℕ → List ℕ
later_than timeline p = slice_index_or timeline.later.items p []

abbrev pub unrested_after : Timeline → ℕ → List ℕ
unrested_after timeline p = slice_index_or timeline.unrested.items p []

-- its class after a recurrent rest, the first one from which on it ends in time, and the instant of a class
abbrev pub class_of : Timeline → ℕ → ℕ
class_of timeline p = slice_index timeline.classes.items p

abbrev pub low_of : Timeline → ℕ → ℕ
low_of timeline p = slice_index timeline.lows.items p

abbrev pub begin_of : Timeline → ℕ → ℕ
begin_of timeline class = slice_index timeline.begins.items class

-- by when there may have been days off behind it
abbrev pub off_of : Timeline → ℕ → DaysOff
off_of timeline p = slice_index_or timeline.offs.items p timeline.start

-- how many of so many pairs of days off still have to come when pairing q begins behind pairing p,
abbrev pub need_behind : Timeline → ℕ → ℕ → ℕ → ℕ
need_behind timeline p q need = need - pairs_by (off_of timeline p) (off_of timeline q).from

-- and when it is the first one
abbrev pub need_first : Timeline → ℕ → ℕ
need_first timeline q = 2 - pairs_by timeline.start (off_of timeline q).from

-- behind pairing p so many may come before the month ends
abbrev pub MayEnd : Timeline → ℕ → ℕ → Type 0
MayEnd timeline p need = need ≤ pairs_by (off_of timeline p) LAST_INSTANT

-- With the set person k has so many pairs of days off from the begin of pairing p on.
abbrev pub IsOwed : Problem → ℕ → Timeline → List ℕ → ℕ → ℕ → Type 0
IsOwed problem k timeline set p need =
    HasPairsFrom (home_of problem k).days (duty_list problem k set) (off_of timeline p).from need

-- the minutes of flight of a path's pairings
abbrev pub flight_along : Problem → ℕ → List ℕ → ℕ
flight_along problem k path = sum_by (minutes_of_pairing problem k) path

-- the minutes of flight that the limits of a calendar year and of twelve months leave the person beside the
-- fixed ones
abbrev pub spare_flight : Problem → ℕ → ℕ
spare_flight problem k =
    min (MOST_FLIGHT_IN_A_YEAR - year_of problem k) (MOST_FLIGHT_IN_12_MONTHS - eleven_of problem k)
    - flight_of problem k []

-- what a path's pairings take of the sum that is watched
abbrev pub load_along : Timeline → List ℕ → ℕ
load_along timeline path = sum_by (slice_index timeline.loads.items) path

-- Pairings that are legal together, by their ranks. They have no more flight than limits leave, and take no more of
-- the sum that is watched.
pub record IsPath (problem : Problem) (k : ℕ) (timeline : Timeline) (path : List ℕ) : Type 0 where
  pub legal : IsLegal problem k path
  pub ranked : IsRanked (rank_of timeline) path
  pub places : All (λ p. p < length problem.pairings) path
  pub spare : flight_along problem k path ≤ spare_flight problem k
  pub light : load_along timeline path ≤ timeline.spare_load

-- a list for each pairing, and a class for each that is legal alone
pub record CoversPairings (problem : Problem) (timeline : Timeline) : Type 0 where
  pub ranks : length timeline.ranks.items ≡ length problem.pairings
  pub later : length timeline.later.items ≡ length problem.pairings
  pub unrested : length timeline.unrested.items ≡ length problem.pairings
  pub classes : length timeline.classes.items ≡ length problem.pairings
  pub lows : length timeline.lows.items ≡ length problem.pairings
  pub offs : length timeline.offs.items ≡ length problem.pairings
  pub begins : length timeline.begins.items ≡ length timeline.order.items

-- In each legal set it is known of its pairings which follow which, since when no recurrent rest may have
-- been, and how many pairs of days off still have to come.
pub record IsTimeline (problem : Problem) (k : ℕ) (timeline : Timeline) : Type 0 where
  pub covers : CoversPairings problem timeline
  pub alone : AreAlone problem k timeline.alone
  pub short : length timeline.order.items ≤ MOST_PAIRINGS
  pub known : All (λ p. is_among timeline.alone p ≡ true) timeline.order.items
  pub order : (p : ℕ) → is_among timeline.alone p ≡ true
      → slice_get timeline.order.items (rank_of timeline p) ≡ Some p
  pub later : (set : List ℕ) (p q : ℕ) → IsLegal problem k set → p < length problem.pairings
      → q < length problem.pairings → is_among set p ≡ true → is_among set q ≡ true
      → rank_of timeline p < rank_of timeline q → is_among (later_than timeline p) q ≡ true
  pub class : (p : ℕ) → is_among timeline.alone p ≡ true
      → class_of timeline p < length timeline.order.items
  pub own : (set : List ℕ) (p : ℕ) → IsLegal problem k set → p < length problem.pairings
      → is_among set p ≡ true → IsBegun problem k set p (begin_of timeline (class_of timeline p))
  pub same : (set : List ℕ) (p q begin : ℕ) → IsLegal problem k set → p < length problem.pairings
      → q < length problem.pairings → is_among set p ≡ true → is_among set q ≡ true
      → is_among (unrested_after timeline p) q ≡ true → IsBegun problem k set p begin
      → IsBegun problem k set q begin
  pub rising : (p q : ℕ) → p < length problem.pairings → is_among (unrested_after timeline p) q ≡ true
      → class_of timeline p ≤ class_of timeline q
  pub in_time : (set : List ℕ) (q class : ℕ) → IsLegal problem k set → q < length problem.pairings
      → is_among set q ≡ true → class < length timeline.order.items
      → IsBegun problem k set q (begin_of timeline class) → low_of timeline q ≤ class
  pub need_first : (set : List ℕ) (q : ℕ) → IsLegal problem k set → q < length problem.pairings
      → is_among set q ≡ true → IsOwed problem k timeline set q (need_first timeline q)
  pub need_behind : (set : List ℕ) (p q need : ℕ) → IsLegal problem k set → p < length problem.pairings
      → q < length problem.pairings → is_among set p ≡ true → is_among set q ≡ true
      → IsOwed problem k timeline set p need → IsOwed problem k timeline set q (need_behind timeline p q need)
  pub may_end : (set : List ℕ) (p need : ℕ) → IsLegal problem k set → p < length problem.pairings
      → is_among set p ≡ true → IsOwed problem k timeline set p need → MayEnd timeline p need
  pub flights : AreFlights problem k timeline.flights.items
  pub few : All (λ flight. flight ≤ MOST_FLIGHT) timeline.flights.items
  pub loads : AreLoads problem k timeline.loads.items timeline.spare_load

-- a timeline of person k, and what each pairing brings
pub record AreValued (problem : Problem) (k : ℕ) (timeline : Timeline) (values : List ℤ) : Type 0 where
  pub is_timeline : IsTimeline problem k timeline
  pub few : length problem.pairings ≤ MOST_PAIRINGS
  pub covers : length values ≡ length problem.pairings
  pub within : All (IsWithin MOST_STEP) values
