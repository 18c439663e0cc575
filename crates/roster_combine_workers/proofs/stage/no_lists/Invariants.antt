use Rattle.std.proofs.Common.{◌≡◌, [], map, replicate}
use Rattle.roster_combine_workers.proofs.stage.no_lists.Given as goal

-- the lists so far
abbrev pub invariant-loop-worker : goal.invariant-loop-worker
invariant-loop-worker l = map (λ list. list.items) l.lists.items ≡ replicate l._worker []
