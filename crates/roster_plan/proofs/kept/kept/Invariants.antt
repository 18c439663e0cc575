use Rattle.std.proofs.Common.{◌≡◌, length}
use Rattle.roster_plan.specs.Kept.{AreKept}
use Rattle.roster_plan.proofs.kept.kept.Given as goal

-- the first numbers are kept
abbrev pub invariant-loop-number : goal.invariant-loop-number
invariant-loop-number l = record {
  judge : l.judge ≡ l.problem;
  long : length l.kept.items ≡ l.number-index;
  are : AreKept l.problem l.given l.kept.items;
}
