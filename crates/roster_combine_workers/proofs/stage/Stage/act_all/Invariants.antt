use Rattle.std.proofs.Common.{◌≡◌}
use Rattle.roster_combine_workers.proofs.stage.Stage.act_all.Given as goal

-- the same search
abbrev pub invariant-loop-k : goal.invariant-loop-k
invariant-loop-k g l = l.self.task ≡ l.initial.self.task
