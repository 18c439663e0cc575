use Rattle.std.proofs.Common.{ℕ, ◌<◌, ◌≤◌}
use Rattle.roster_model.specs.Rules.DaysOff.{IsPairOff}
use Rattle.roster_legal_reasons.proofs.rules.days_off.first_pair_from.Given as goal

-- the days so far are no pairs off
abbrev pub invariant-loop-i : goal.invariant-loop-i
invariant-loop-i l = (j : ℕ) → l.from ≤ j → j < l.i → ¬ IsPairOff l.days l.list j
