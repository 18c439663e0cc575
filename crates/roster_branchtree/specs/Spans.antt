-- The range of lines that a span leaves each person.
use Rattle.std.specs.Prelude.{◌≡◌, ℕ, ◌<◌, ◌+◌, ◌==◌, if◌then◌else◌, List, Option, Some, None, length, slice_get}
use Rattle.roster_lines_table.specs.Entries.{Entry}
use Rattle.roster_lines_table.specs.Person.{lines_at}
use Rattle.roster_subtreepool_spans.specs.Spans.{Span}

-- the range of one line number, if there is one
abbrev pub range_or : Option ℕ → ℕ × ℕ → ℕ × ℕ
range_or (Some i) other = (i, i + 1)
range_or None other = other

-- the range of line numbers that the span leaves person k
abbrev pub range_at : List (List Entry) → Span → ℕ → ℕ × ℕ
range_at table span k =
    range_or (slice_get span.path k)
    (if k == length span.path then (span.lo, span.hi) else (0, length (lines_at table k)))

-- the ranges of the first persons, so many of them
pub record AreRangesOf (table : List (List Entry)) (span : Span) (count : ℕ)
    (ranges : List (ℕ × ℕ)) : Type 0 where
  pub covers : length ranges ≡ count
  pub each : (k : ℕ) → k < count → slice_get ranges k ≡ Some (range_at table span k)

-- each number of the path is that of a line
abbrev pub AreLineNumbers : List (List Entry) → List ℕ → Type 0
AreLineNumbers table path = (k i : ℕ) → slice_get path k ≡ Some i → i < length (lines_at table k)
