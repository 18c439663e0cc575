use Rattle.std.proofs.Common.{◌≡◌}
use Rattle.roster_model.proofs.RuleLemmas.{HoldBelow}
use Rattle.roster_model.specs.Rules.{rank_of_limit}
use Rattle.roster_cumulative.specs.Limited.{IsKept}
use Rattle.roster_cumulative.proofs.limits.cumulative_broken.Given as goal

-- the limits so far hold
abbrev pub invariant-loop-limit : goal.invariant-loop-limit
invariant-loop-limit l = record {
  same : l.limits ≡ l.initial.limits;
  kept : HoldBelow rank_of_limit (IsKept l.limits) l.limit-index;
}
