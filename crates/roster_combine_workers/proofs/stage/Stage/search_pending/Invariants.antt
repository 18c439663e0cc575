use Rattle.std.proofs.Common.{◌≡◌, length}
use Rattle.roster_combine_workers.specs.Replays.{IsIdle}
use Rattle.roster_combine_workers.proofs.stage.Stage.search_pending.Given as goal

-- nobody has a span
abbrev pub invariant-loop-self : goal.invariant-loop-self
invariant-loop-self g l = record {
  task : l.self.task ≡ l.initial.self.task;
  idle : IsIdle l.self.state;
}

abbrev pub decreases-loop-self : goal.decreases-loop-self
decreases-loop-self g l = length l.self.state.pending
