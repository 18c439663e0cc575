-- The states of a pool of spans, and the events that lead from one to the next. A span is pending, in the
-- hand of a worker, or finished.
use Rattle.std.specs.Prelude.{◌≡◌, ℕ, ◌+◌, ◌-◌, ◌/◌, ◌<◌, ◌==◌, ◌&&◌, nat_le, nat_lt, Bool, if◌then◌else◌, List, [], ◌∷◌, ◌++◌, length, Option, Some, None, All, option_and_then, remove, replicate, slice_get, slice_index, slice_index_or, slice_set}
use Rattle.std.specs.List.{sum_by}
use Rattle.roster_model.specs.Rosters.{Key}
use Rattle.roster_subtreepool_spans.specs.Spans.{Span}
use Rattle.roster_subtreepool.specs.declared.event.Event.{Event}
use Rattle.roster_subtreepool.specs.declared.event.Event.TheVariants.{Take, Halve, Descend, Back, Finish}

-- how many lines each person has; the spans that nobody has; for each worker the span that it has, if
-- any; and who finished which span, in order
pub record State : Type 0 where
  pub widths : List ℕ
  pub pending : List Span
  pub hands : List (Option Span)
  pub finished : List (ℕ × Span)

-- the lists of the whole box
abbrev pub root : List ℕ → Span
root widths = record { path = []; lo = 0; hi = slice_index widths 0 }

-- the root is pending, and nobody has a span
abbrev pub opening : List ℕ → ℕ → State
opening widths workers =
    record { widths = widths; pending = root widths ∷ []; hands = replicate workers None; finished = [] }

-- the span that a worker has, if any
abbrev pub held : State → ℕ → Option Span
held state worker = slice_index_or state.hands worker None

-- ---- the parts of a span

-- where a range is halved
abbrev pub middle : Span → ℕ
middle span = span.lo + (span.hi - span.lo) / 2

abbrev pub lower : Span → Span
lower span = record span { hi = middle span }

abbrev pub upper : Span → Span
upper span = record span { lo = middle span }

-- each half has a line
abbrev pub can_halve : Span → Bool
can_halve span = nat_le 2 (span.hi - span.lo)

-- the range is one line, and a person comes after the next one
abbrev pub can_descend : List ℕ → Span → Bool
can_descend widths span = (span.hi == span.lo + 1) && nat_lt (length span.path + 1) (length widths)

-- the path with that line, and the whole range of the person after
abbrev pub descended : List ℕ → Span → Span
descended widths span =
    record { path = span.path ++ span.lo ∷ []; lo = 0; hi = slice_index widths (length span.path + 1) }

-- ---- events

-- a pending span goes into a hand, if the hand is there and empty, and so is the span
abbrev pub take_in : State → ℕ → ℕ → Option (Option Span) → Option Span → Option State
take_in state worker place (Some None) (Some span) =
    Some
    (record state { pending = remove state.pending place; hands = slice_set state.hands worker (Some span) })
take_in state worker place (Some None) None = None
take_in state worker place (Some (Some span)) _ = None
take_in state worker place None _ = None

-- the hand keeps the lower half of its span, and the upper half becomes the last pending one
abbrev pub halve_in : State → ℕ → Option Span → Option State
halve_in state worker None = None
halve_in state worker (Some span) =
    if can_halve span
    then Some (record state { pending = state.pending ++ upper span ∷ []; hands = slice_set state.hands worker (Some (lower span)) })
    else None

-- the hand's span goes down to the next person
abbrev pub descend_in : State → ℕ → Option Span → Option State
descend_in state worker None = None
descend_in state worker (Some span) =
    if can_descend state.widths span
    then Some (record state { hands = slice_set state.hands worker (Some (descended state.widths span)) })
    else None

-- the hand's span becomes the last pending one
abbrev pub back_in : State → ℕ → Option Span → Option State
back_in state worker None = None
back_in state worker (Some span) =
    Some (record state { pending = state.pending ++ span ∷ []; hands = slice_set state.hands worker None })

-- the hand's span is listed as finished by its worker
abbrev pub finish_in : State → ℕ → Option Span → Option State
finish_in state worker None = None
finish_in state worker (Some span) =
    Some (record state { hands = slice_set state.hands worker None; finished = state.finished ++ (worker, span) ∷ [] })

-- the state after an event, if it is allowed
abbrev pub step : State → Event → Option State
step state (Take worker place) =
    take_in state worker place (slice_get state.hands worker) (slice_get state.pending place)
step state (Halve worker) = halve_in state worker (held state worker)
step state (Descend worker) = descend_in state worker (held state worker)
step state (Back worker) = back_in state worker (held state worker)
step state (Finish worker) = finish_in state worker (held state worker)

-- the state after some events, one after another, if each is allowed
abbrev pub play : Option State → List Event → Option State
play state [] = state
play state (event ∷ events) = play (option_and_then (λ s. step s event) state) events

-- the state of a pool with so many workers after some events
abbrev pub after : List ℕ → ℕ → List Event → Option State
after widths workers events = play (Some (opening widths workers)) events

-- nothing is pending, and each hand is empty
pub record IsAtRest (state : State) : Type 0 where
  pub pending : state.pending ≡ []
  pub hands : All (λ hand. hand ≡ None) state.hands

-- 1 for an event that finishes a span, and else 0
abbrev pub finished_by : Event → ℕ
finished_by (Take worker place) = 0
finished_by (Halve worker) = 0
finished_by (Descend worker) = 0
finished_by (Back worker) = 0
finished_by (Finish worker) = 1

-- how many events finish a span
abbrev pub finishes : List Event → ℕ
finishes events = sum_by finished_by events

-- ---- a pool: its state, and the events that led to it

pub record Played : Type 0 where
  pub state : State
  pub events : List Event

-- the state is the replay of the events
abbrev pub IsReplay : Played → Type 0
IsReplay pool = after pool.state.widths (length pool.state.hands) pool.events ≡ Some pool.state

-- so it is of a state that some pool came to by its events
abbrev pub Met : (State → Type 0) → Type 0
Met Holds = (pool : Played) × IsReplay pool × Holds pool.state

-- the pool has one event more, by which its state changed
pub record Adds (event : Event) (old new : Played) : Type 0 where
  pub state : step old.state event ≡ Some new.state
  pub events : new.events ≡ old.events ++ event ∷ []

-- what a pool keeps: its state is the replay of its events, the ledger's total is the number of spans that
-- they finished, and there is a person
pub record IsKept (pool : Played) (total : ℕ) : Type 0 where
  pub replay : IsReplay pool
  pub counted : total ≡ finishes pool.events
  pub persons : 0 < length pool.state.widths

-- a span that is settled, and the key of the roster by which it is
pub record SettledSpan : Type 0 where
  pub span : Span
  pub best : Key

-- a pool that was closed: the widths, and who finished which span, in order
pub record Ended : Type 0 where
  pub widths : List ℕ
  pub finished : List (ℕ × Span)

-- it comes from a state at rest
pub record IsEnd (ended : Ended) : Type 0 where
  pub persons : 0 < length ended.widths
  pub workers : ℕ
  pub events : List Event
  pub state : State
  pub replay : after ended.widths workers events ≡ Some state
  pub rest : IsAtRest state
  pub finished : ended.finished ≡ state.finished
