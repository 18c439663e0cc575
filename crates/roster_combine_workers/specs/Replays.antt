-- A replay of a search: what it searches, where each span is, what was handed in, and the best roster so far.
use Rattle.std.specs.Prelude.{◌≡◌, ℕ, List, None, All, length, map}
use Rattle.roster_model.specs.Rosters.{Key}
use Rattle.roster_model.specs.Settled.{IsHeld}
use Rattle.roster_subtreepool.specs.States.{Ended, SettledSpan, State, held}
use Rattle.roster_subtreepool_spans.specs.Spans.{Span}
use Rattle.roster_incumbent.specs.Kept.{less_of}
use Rattle.roster_combine_workers.specs.Parts.{Agree, AreSettled, IsSettled, Task}

pub record Replay : Type 0 where
  pub task : Task
  pub state : State
  pub best : Key

abbrev pub ended_of : State → Ended
ended_of state = record { widths = state.widths; finished = state.finished }

-- what was handed in is settled, and just what the pool lists; the best roster so far is legal
pub record IsReplaying (task : Task) (state : State) (lists : List (List SettledSpan)) (best : Key) : Type 0 where
  pub held : IsHeld task.problem best
  pub settled : All (AreSettled task.problem task.table) lists
  pub agree : Agree (map length task.table) lists (ended_of state)
  pub hands : length state.hands ≡ length lists

-- nobody has a span
abbrev pub IsIdle : State → Type 0
IsIdle state = (worker : ℕ) → held state worker ≡ None

-- the best roster was raised to one that settles the span
pub record IsRaised (task : Task) (span : Span) (old new : Key) : Type 0 where
  pub found : Key
  pub settled : IsSettled task.problem task.table (record { span = span; best = found })
  pub raised : new ≡ less_of old found
