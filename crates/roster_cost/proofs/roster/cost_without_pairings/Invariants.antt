use Rattle.std.proofs.Common.{◌≡◌, ◌+◌, ◌*◌, ◌≤◌, [], length}
use Rattle.std.specs.List.{range_with_len, sum_by}
use Rattle.roster_model.specs.Costs.{missed_target}
use Rattle.roster_model.specs.Rules.{duty_list}
use Rattle.roster_model.specs.declared.limits.TheConstants.{MOST_MINUTES, MOST_MONTH_MINUTES, MOST_WEIGHT}
use Rattle.roster_cost.proofs.roster.cost_without_pairings.Given as goal

-- the persons so far, whose lists bound what they miss
abbrev pub invariant-loop-k : goal.invariant-loop-k
invariant-loop-k l = record {
  value : l.cost ≡ sum_by (λ k. missed_target l.problem k []) (range_with_len 0 l.k);
  bound : l.cost ≤ MOST_WEIGHT * (sum_by (λ k. length (duty_list l.problem k [])) (range_with_len 0 l.k) * MOST_MONTH_MINUTES + l.k * MOST_MINUTES);
}
