use Rattle.std.proofs.Common.{◌≡◌, vec_len}
use Rattle.roster_plan.proofs.NearLemmas.{AreFree}
use Rattle.roster_plan.proofs.nearby.free_at.Given as goal

-- the persons so far are free
abbrev pub invariant-loop-k : goal.invariant-loop-k
invariant-loop-k l = record {
  covers : vec_len l.wanted ≡ l.k;
  free : AreFree l.problem l.base l.wanted.items;
}
