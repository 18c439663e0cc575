-- In how many spans of a pool a list of line numbers lies.
use Rattle.std.specs.Prelude.{◌≡◌, ℕ, ◌+◌, ◌<◌, ◌==◌, ◌&&◌, nat_le, nat_lt, Bool, false, if◌then◌else◌, List, [], ◌∷◌, length, Option, Some, None, slice_index}
use Rattle.std.specs.List.{sum_by}
use Rattle.roster_subtreepool_spans.specs.Spans.{Span}
use Rattle.roster_subtreepool.specs.States.{State}

-- one number for each person, that of a line: the lists of the box
pub record IsInWidths (widths numbers : List ℕ) : Type 0 where
  pub covers : length numbers ≡ length widths
  pub each : (k : ℕ) → k < length widths → slice_index numbers k < slice_index widths k

-- the numbers begin with the path, and the next one is in the range
abbrev pub goes_on : List ℕ → ℕ → ℕ → List ℕ → Bool
goes_on [] lo hi [] = false
goes_on [] lo hi (i ∷ rest) = nat_le lo i && nat_lt i hi
goes_on (p ∷ path) lo hi [] = false
goes_on (p ∷ path) lo hi (i ∷ rest) = (p == i) && goes_on path lo hi rest

-- 1 if the numbers lie in the span, and else 0
abbrev pub times_in : List ℕ → Span → ℕ
times_in numbers span = if goes_on span.path span.lo span.hi numbers then 1 else 0

abbrev pub times_in_hand : List ℕ → Option Span → ℕ
times_in_hand numbers None = 0
times_in_hand numbers (Some span) = times_in numbers span

-- in how many spans of the finished ones
abbrev pub times_finished : List ℕ → List (ℕ × Span) → ℕ
times_finished numbers finished = sum_by (λ (entry : ℕ × Span). times_in numbers entry.1) finished

-- in how many spans that are pending, in a hand or finished
abbrev pub times : List ℕ → State → ℕ
times numbers state =
    sum_by (times_in numbers) state.pending + sum_by (times_in_hand numbers) state.hands + times_finished numbers state.finished
