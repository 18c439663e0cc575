-- How a timeline is made: each table by itself, and what is asked of all of them at the end.
use Rattle.std.specs.Prelude.{◌≡◌, ℕ, ◌+◌, ◌<◌, ◌≤◌, ◌⊎◌, List, [], ◌∷◌, length, slice_get, slice_index, slice_index_or, true, Some, All}
use Rattle.roster_model.specs.declared.limits.TheConstants.{MOST_PAIRINGS}
use Rattle.roster_model.specs.declared.profile.TheConstants.{BETWEEN_RECURRENT_RESTS}
use Rattle.roster_model.specs.Problem.{Problem}
use Rattle.roster_model.specs.Rules.{is_among}
use Rattle.roster_lines.specs.declared.pairs.Pairs.{Pairs}
use Rattle.roster_plan_bound.specs.declared.parts.TheConstants.{MOST_FLIGHT}
use Rattle.roster_plan_bound.specs.declared.days_off.DaysOff.{DaysOff}
use Rattle.roster_plan_bound.specs.declared.loads.Room.{Room}
use Rattle.roster_plan_bound.specs.declared.span.Span.{Span}
use Rattle.roster_plan_bound.specs.declared.timeline.Timeline.{Timeline}
use Rattle.roster_plan_bound.specs.DaysOffs.{IsOffFrom}
use Rattle.roster_plan_bound.specs.Spans.{GoesOn, IsSpan}
use Rattle.roster_plan_bound.specs.Timelines.{begin_of, class_of, rank_of}

-- the span of each pairing
pub record AreSpans (problem : Problem) (spans : List Span) : Type 0 where
  pub covers : length spans ≡ length problem.pairings
  pub each : (p : ℕ) (span : Span) → slice_get spans p ≡ Some span → IsSpan problem p span

-- by when there may be days off behind each pairing, from its span's report on
pub record AreOffs (problem : Problem) (k : ℕ) (spans : List Span) (offs : List DaysOff) : Type 0 where
  pub covers : length offs ≡ length spans
  pub each : (p : ℕ) (off : DaysOff) → slice_get offs p ≡ Some off
      → (span : Span) → slice_get spans p ≡ Some span → IsOffFrom problem k (p ∷ []) span.report off

-- one of two pairings is in the row of the other
abbrev pub AreListed : List (List ℕ) → ℕ → ℕ → Type 0
AreListed rows p q =
    ((p < q) × (is_among (slice_index_or rows p []) q ≡ true))
    ⊎ ((q < p) × (is_among (slice_index_or rows q []) p ≡ true))

-- Pairings with ranks, and all of a later rank than p that are legal with it.
pub record IsLaterRow (alone : List ℕ) (rows : List (List ℕ)) (ranks : List ℕ) (p : ℕ)
    (later : List ℕ) : Type 0 where
  pub places : (q : ℕ) → is_among later q ≡ true → q < length ranks
  pub every : (q : ℕ) → is_among alone q ≡ true → slice_index ranks p < slice_index ranks q
      → AreListed rows p q → is_among later q ≡ true

-- pairing q goes on after p without a rest, and it is solid
pub record IsNext (spans : List Span) (classes : List ℕ) (p q : ℕ) : Type 0 where
  pub first : Span
  pub second : Span
  pub before : slice_get spans p ≡ Some first
  pub after : slice_get spans q ≡ Some second
  pub solid : second.solid ≡ true
  pub goes : GoesOn first.release second.report
  pub rising : slice_index classes p ≤ slice_index classes q

-- all of the row go on after p
abbrev pub IsUnrestedRow : List Span → List ℕ → ℕ → List ℕ → Type 0
IsUnrestedRow spans classes p row = (q : ℕ) → is_among row q ≡ true → IsNext spans classes p q

-- no class before it is late enough for the span
abbrev pub IsLow : List ℕ → ℕ → Span → ℕ → Type 0
IsLow begins month_start span low =
    (class : ℕ) → class < length begins
    → (month_start < span.release → span.release ≤ slice_index begins class + BETWEEN_RECURRENT_RESTS)
    → low ≤ class

-- The tables of a timeline, made from pairs, spans, days off and loads.
pub record IsDraft (pairs : Pairs) (spans : List Span) (offs : List DaysOff) (start : DaysOff)
    (month_start : ℕ) (room : Room) (timeline : Timeline) : Type 0 where
  pub alone : timeline.alone ≡ pairs.alone
  pub places : All (λ p. p < length spans) timeline.order.items
  pub ranks : length timeline.ranks.items ≡ length spans
  pub begins : length timeline.begins.items ≡ length timeline.order.items
  pub classes : length timeline.classes.items ≡ length spans
  pub long_lows : length timeline.lows.items ≡ length spans
  pub lows : (p low : ℕ) (span : Span) → slice_get spans p ≡ Some span → slice_get timeline.lows.items p ≡ Some low
      → IsLow timeline.begins.items month_start span low
  pub long_later : length timeline.later.items ≡ length spans
  pub later : (p : ℕ) (row : List ℕ) → slice_get timeline.later.items p ≡ Some row
      → IsLaterRow pairs.alone pairs.rows.items timeline.ranks.items p row
  pub long_unrested : length timeline.unrested.items ≡ length spans
  pub unrested : (p : ℕ) (row : List ℕ) → slice_get timeline.unrested.items p ≡ Some row
      → IsUnrestedRow spans timeline.classes.items p row
  pub are_offs : timeline.offs.items ≡ offs
  pub is_start : timeline.start ≡ start
  pub flights : timeline.flights.items ≡ pairs.flights.items
  pub loads : timeline.loads.items ≡ room.loads.items
  pub spare_load : timeline.spare_load ≡ room.spare

-- pairing p stands at its rank, and its class is the begin of its span
pub record Fits (timeline : Timeline) (spans : List Span) (p : ℕ) : Type 0 where
  pub order : slice_get timeline.order.items (rank_of timeline p) ≡ Some p
  pub class : class_of timeline p < length timeline.begins.items
  pub begin : (span : Span) → slice_get spans p ≡ Some span → begin_of timeline (class_of timeline p) ≡ span.begin

-- each pairing that is legal alone has its place and its class, and only these are in order
pub record IsWhole (timeline : Timeline) (spans : List Span) : Type 0 where
  pub short : length timeline.order.items ≤ MOST_PAIRINGS
  pub known : All (λ p. is_among timeline.alone p ≡ true) timeline.order.items
  pub fits : (p : ℕ) → is_among timeline.alone p ≡ true → Fits timeline spans p
  pub few : All (λ flight. flight ≤ MOST_FLIGHT) timeline.flights.items
