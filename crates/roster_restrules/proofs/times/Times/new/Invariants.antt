use Rattle.std.proofs.Common.{◌≡◌, ℕ, length, Some}
use Rattle.std.specs.Prelude.{slice_get}
use Rattle.roster_model.specs.records.Duty.{Duty}
use Rattle.roster_restrules.specs.declared.times.DutyTimes.{DutyTimes}
use Rattle.roster_restrules.specs.Times.{AreTimesOf}
use Rattle.roster_restrules.proofs.times.Times.new.Given as goal

-- the duties so far
abbrev pub invariant-loop-i : goal.invariant-loop-i
invariant-loop-i l = record {
  long : length l.times.items ≡ l.i;
  each : (k : ℕ) (at : DutyTimes) → slice_get l.times.items k ≡ Some at → (duty : Duty)
      → slice_get l.duties k ≡ Some duty → AreTimesOf l.days duty at;
}
