use Rattle.roster_search_least.proofs.EarlierLemmas.{AreDenied}
use Rattle.roster_search_least.proofs.first.keep_earlier.Given as goal

-- those so far haven't it
abbrev pub invariant-loop-k : goal.invariant-loop-k
invariant-loop-k l = record {
  denied : AreDenied l.problem l.number l.p l.k l.fn.region l.region;
}
