use Rattle.std.proofs.Common.{ℕ, ◌-◌, ◌<◌}
use Rattle.roster_problem.specs.Duties.{picked}
use Rattle.roster_restrules.specs.Block.{EndsInTime, IsBlock}
use Rattle.roster_restrules.proofs.times.Times.keep_recovery.Given as goal

-- the block of the last duty so far, and the rule for the duties so far
abbrev pub invariant-loop-i : goal.invariant-loop-i
invariant-loop-i l = record {
  block : IsBlock l.self.days (picked l.self.duties l.positions) l.first (l.i - 1);
  kept : (j : ℕ) → j < l.i → EndsInTime l.self.days (picked l.self.duties l.positions) j;
}
