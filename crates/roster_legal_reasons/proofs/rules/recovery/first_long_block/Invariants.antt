use Rattle.std.proofs.Common.{ℕ, ◌-◌, ◌<◌}
use Rattle.roster_restrules.specs.Block.{EndsInTime, IsBlock}
use Rattle.roster_legal_reasons.proofs.rules.recovery.first_long_block.Given as goal

-- the block of the last duty so far, and the rule for the duties so far
abbrev pub invariant-loop-i : goal.invariant-loop-i
invariant-loop-i l = record {
  block : IsBlock l.days l.list l.first (l.i - 1);
  kept : (j : ℕ) → j < l.i → EndsInTime l.days l.list j;
}
