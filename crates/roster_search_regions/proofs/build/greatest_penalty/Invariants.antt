use Rattle.std.proofs.Common.{◌<◌, ◌≤◌}
use Rattle.roster_cost.specs.Amounts.{most_extra}
use Rattle.roster_search_regions.proofs.build.greatest_penalty.Given as goal

-- a number as large as an extra may be
abbrev pub invariant-loop-p : goal.invariant-loop-p
invariant-loop-p l = record {
  some : 0 < l.greatest;
  most : l.greatest ≤ most_extra;
}
