use Rattle.std.proofs.Common.{◌≡◌, None, replicate}
use Rattle.roster_subtreepool.proofs.board.empty_hands.Given as goal

-- the hands so far
abbrev pub invariant-loop-worker : goal.invariant-loop-worker
invariant-loop-worker l = l.hands.items ≡ replicate l._worker None
