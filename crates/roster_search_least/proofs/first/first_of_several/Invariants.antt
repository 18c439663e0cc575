use Rattle.std.proofs.Common.{◌<◌, IfSome}
use Rattle.roster_search_least.proofs.first.first_of_several.Given as goal

-- it is before the number
abbrev pub invariant-loop-k : goal.invariant-loop-k
invariant-loop-k l = record {
  first : IfSome l.first (λ k. k < l.number);
}
