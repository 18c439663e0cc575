use Rattle.std.proofs.Common.{◌≡◌, ◌+◌, vec_len}
use Rattle.std.specs.Prelude.{sum}
use Rattle.roster_subtreepool.proofs.share.gathered.Given as goal

-- what is gathered, and what is left
abbrev pub invariant-loop-all : goal.invariant-loop-all
invariant-loop-all g l = record {
  parts : l.all.parts + vec_len l.shares ≡ vec_len l.fn.shares;
  amount : l.all.amount + sum l.shares.items ≡ sum l.fn.shares.items;
}

abbrev pub decreases-loop-all : goal.decreases-loop-all
decreases-loop-all g l = vec_len l.shares
