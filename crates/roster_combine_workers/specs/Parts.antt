-- What workers hand in, and what it has to agree with.
use Rattle.std.specs.Prelude.{◌≡◌, ℕ, ◌<◌, ◌==◌, Bool, true, false, List, [], ◌∷◌, Some, All, length, map, slice_get, slice_index_or}
use Rattle.roster_model.specs.Problem.{Problem}
use Rattle.roster_model.specs.Costs.{cost_of}
use Rattle.roster_model.specs.Rosters.{Key, key_le}
use Rattle.roster_model.specs.Settled.{IsBest, IsHeld, IsNotAfter}
use Rattle.roster_lines_table.specs.Entries.{Entry}
use Rattle.roster_subtreepool_spans.specs.Spans.{IsInSpan, Span}
use Rattle.roster_subtreepool.specs.States.{Ended, SettledSpan}

-- what all workers search
pub record Task : Type 0 where
  pub problem : Problem
  pub table : List (List Entry)

-- the key is that of the best roster
pub record IsBestKey (problem : Problem) (key : Key) : Type 0 where
  pub best : IsBest problem key.places
  pub cost : key.cost ≡ cost_of problem key.places

-- the roster is legal, and no legal roster of the span comes before it
pub record IsSettled (problem : Problem) (table : List (List Entry)) (part : SettledSpan) : Type 0 where
  pub held : IsHeld problem part.best
  pub least : IsNotAfter problem (IsInSpan table part.span) part.best

abbrev pub AreSettled : Problem → List (List Entry) → List SettledSpan → Type 0
AreSettled problem table parts = All (IsSettled problem table) parts

abbrev pub span_of : SettledSpan → Span
span_of part = part.span

-- the spans that a worker finished, in order
abbrev pub spans_if : Bool → Span → List Span → List Span
spans_if true span rest = span ∷ rest
spans_if false span rest = rest

abbrev pub spans_by : ℕ → List (ℕ × Span) → List Span
spans_by worker [] = []
spans_by worker (entry ∷ rest) = spans_if (entry.0 == worker) entry.1 (spans_by worker rest)

-- what the workers handed in, a list for each, is just what a closed pool with these widths lists for each
pub record Agree (widths : List ℕ) (lists : List (List SettledSpan)) (ended : Ended) : Type 0 where
  pub covers : ended.widths ≡ widths
  pub workers : All (λ (entry : ℕ × Span). entry.0 < length lists) ended.finished
  pub spans : (worker : ℕ) → worker < length lists
      → map span_of (slice_index_or lists worker []) ≡ spans_by worker ended.finished

-- The new key is after neither the old one nor that of any of the first parts, so many of them. It is that of a
-- legal roster if all those are.
pub record IsLeastOf (parts : List SettledSpan) (count : ℕ) (old new : Key) : Type 0 where
  pub kept : key_le new old ≡ true
  pub least : (k : ℕ) (part : SettledSpan) → k < count → slice_get parts k ≡ Some part → key_le new part.best ≡ true
  pub held : (problem : Problem) → IsHeld problem old → All (λ (part : SettledSpan). IsHeld problem part.best) parts
      → IsHeld problem new

-- the same of the parts of the first workers
pub record IsLeastOfAll (lists : List (List SettledSpan)) (count : ℕ) (old new : Key) : Type 0 where
  pub kept : key_le new old ≡ true
  pub least : (worker k : ℕ) (part : SettledSpan) → worker < count
      → slice_get (slice_index_or lists worker []) k ≡ Some part → key_le new part.best ≡ true
  pub held : (problem : Problem) → IsHeld problem old
      → All (λ (parts : List SettledSpan). All (λ (part : SettledSpan). IsHeld problem part.best) parts) lists
      → IsHeld problem new
