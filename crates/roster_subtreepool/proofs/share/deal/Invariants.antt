use Rattle.std.proofs.Common.{◌≡◌, ◌+◌, ◌≤◌, replicate, vec_len}
use Rattle.std.specs.Prelude.{vec_capacity}
use Rattle.roster_subtreepool.proofs.share.deal.Given as goal

-- the shares so far, and what is left of the ledger
abbrev pub invariant-loop-worker : goal.invariant-loop-worker
invariant-loop-worker g l = record {
  parts : l.rest.parts + l._worker ≡ l.workers;
  amount : l.rest.amount ≡ 0;
  shares : l.shares.items ≡ replicate l._worker 0;
  length : vec_len l.shares ≡ l._worker;
  room : l.workers ≤ vec_capacity l.shares;
}
