use Rattle.std.proofs.Common.{◌≡◌, ◌≤◌}
use Rattle.roster_model.specs.Places.{open_number}
use Rattle.roster_search_least.specs.Firsts.{IsFoundAt}
use Rattle.roster_search_least.proofs.first.earlier_at.Given as goal

-- what was found so far
abbrev pub invariant-loop-number : goal.invariant-loop-number
invariant-loop-number g l = record {
  same : l.region ≡ l.fn.region;
  most : l.number ≤ open_number l.problem;
  found : IsFoundAt l.problem l.p l.number l.fn.region l.roster l.first;
  goes_on : g.F.Finder.goes_on l.fn.finder l.finder;
}

abbrev pub decreases-loop-number : goal.decreases-loop-number
decreases-loop-number g l = l.number
