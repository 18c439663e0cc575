use Rattle.std.proofs.Common.{◌≡◌, ◌<◌, ℕ, [], map}
use Rattle.std.specs.Prelude.{slice_index_or}
use Rattle.roster_combine_workers.specs.Parts.{span_of, spans_by}
use Rattle.roster_combine_workers.proofs.combining.are_lists_of.Given as goal

-- the lists of the first workers agree
abbrev pub invariant-loop-worker : goal.invariant-loop-worker
invariant-loop-worker l =
    (k : ℕ) → k < l.worker
    → map span_of (slice_index_or (map (λ list. list.items) l.lists) k []) ≡ spans_by k l.finished
