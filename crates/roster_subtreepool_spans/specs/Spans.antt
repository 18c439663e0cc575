-- Spans: the line numbers of the first persons, and a range for the next one. The rosters of a span.
use Rattle.std.specs.Prelude.{◌≡◌, ℕ, ◌<◌, ◌≤◌, List, Some, length, map, slice_get}
use Rattle.roster_model.specs.Lines.{AreNumbersOf}
use Rattle.roster_lines_table.specs.Entries.{Entry, sets_of}

-- the numbers of the first persons' lines, and the next person's from the first number up to the second,
-- which isn't one of them
pub record Span : Type 0 where
  pub path : List ℕ
  pub lo : ℕ
  pub hi : ℕ

-- a list of line numbers begins with the path, and its next number is in the range
pub record LiesIn (span : Span) (numbers : List ℕ) : Type 0 where
  pub front : (k i : ℕ) → slice_get span.path k ≡ Some i → slice_get numbers k ≡ Some i
  pub next : (i : ℕ) × (slice_get numbers (length span.path) ≡ Some i) × (span.lo ≤ i) × (i < span.hi)

-- the places have a list of line numbers that lies in the span
abbrev pub IsInSpan : List (List Entry) → Span → List ℕ → Type 0
IsInSpan table span places =
    (numbers : List ℕ) × AreNumbersOf (map sets_of table) places numbers × LiesIn span numbers
