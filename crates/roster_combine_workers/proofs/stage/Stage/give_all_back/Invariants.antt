use Rattle.std.proofs.Common.{◌≡◌, ◌<◌, ℕ, None, length}
use Rattle.roster_subtreepool.specs.States.{held}
use Rattle.roster_combine_workers.proofs.stage.Stage.give_all_back.Given as goal

-- the first workers have nothing
abbrev pub invariant-loop-worker : goal.invariant-loop-worker
invariant-loop-worker g l = record {
  task : l.self.task ≡ l.initial.self.task;
  hands : length l.self.state.hands ≡ length l.initial.self.state.hands;
  empty : (k : ℕ) → k < l.worker → held l.self.state k ≡ None;
}
