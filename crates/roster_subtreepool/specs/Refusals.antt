-- What a pool refuses: the first of the faults that a call has, want of memory aside.
use Rattle.std.specs.Prelude.{ℕ, ◌==◌, ◌&&◌, nat_eq, nat_lt, Bool, true, false, if◌then◌else◌, length, Option, Some, None, slice_get, unwrap_or}
use Rattle.std.specs.Cmp.Lexicographic.{pointwise}
use Rattle.roster_subtreepool_spans.specs.Spans.{Span}
use Rattle.roster_subtreepool.specs.States.{State, can_descend, can_halve, held}
use Rattle.roster_subtreepool.specs.declared.fault.PoolFault.{PoolFault}
use Rattle.roster_subtreepool.specs.declared.fault.PoolFault.TheVariants.{NotYours, CannotSplit, Nothing, Memory}

-- a hand that is there and empty
abbrev pub is_free : Option (Option Span) → Bool
is_free (Some None) = true
is_free (Some (Some span)) = false
is_free None = false

abbrev pub is_same : Span → Span → Bool
is_same a b = pointwise nat_eq a.path b.path && (a.lo == b.lo) && (a.hi == b.hi)

-- a hand with just this span
abbrev pub is_held : Option Span → Span → Bool
is_held (Some span) piece = is_same span piece
is_held None piece = false

abbrev pub take_fault : State → ℕ → ℕ → Option PoolFault
take_fault state worker place =
    if is_free (slice_get state.hands worker)
    then (if nat_lt place (length state.pending) then None else Some Nothing)
    else Some NotYours

-- of a call that gives up a piece
abbrev pub hand_fault : State → ℕ → Span → Option PoolFault
hand_fault state worker piece = if is_held (held state worker) piece then None else Some NotYours

-- of a call that splits it
abbrev pub split_fault : State → ℕ → Span → Bool → Option PoolFault
split_fault state worker piece can_split =
    if is_held (held state worker) piece then
    (if can_split then None else Some CannotSplit) else Some NotYours

abbrev pub halve_fault : State → ℕ → Span → Option PoolFault
halve_fault state worker piece = split_fault state worker piece (can_halve piece)

abbrev pub descend_fault : State → ℕ → Span → Option PoolFault
descend_fault state worker piece = split_fault state worker piece (can_descend state.widths piece)

-- what a call tells that is refused: its fault, or want of memory if it has none
abbrev pub told : Option PoolFault → PoolFault
told fault = unwrap_or fault Memory
