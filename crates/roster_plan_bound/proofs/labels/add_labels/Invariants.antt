use Rattle.std.proofs.Common.{◌≡◌}
use Rattle.std.specs.Prelude.{All}
use Rattle.roster_plan_bound.specs.Seeks.{IsSpot}
use Rattle.roster_plan_bound.proofs.labels.add_labels.Given as goal

-- each label so far is a spot
abbrev pub invariant-loop : goal.invariant-loop
invariant-loop l = record {
  judge : l.judge ≡ l.prospect.problem;
  labels : All (IsSpot l.prospect) l.labels.items;
}
