use Rattle.std.proofs.Common.{◌≡◌, ◌-◌, ◌≤◌, ◌&&◌, ◌||◌, ℕ}
use Rattle.std.specs.Prelude.{nat_lt}
use Rattle.roster_model.specs.Rules.{is_among}
use Rattle.roster_model.specs.declared.limits.TheConstants.{MOST_PAIRINGS}
use Rattle.roster_bounds.proofs.node.both.Given as goal

-- the first set, and what is in the other before a place
abbrev pub invariant-loop-p : goal.invariant-loop-p
invariant-loop-p l = record {
  so_far : (p : ℕ) → is_among l.all p ≡ (is_among l.set p || (nat_lt p l.from && is_among l.other p));
  within : l.from ≤ MOST_PAIRINGS;
}

abbrev pub decreases-loop-p : goal.decreases-loop-p
decreases-loop-p l = MOST_PAIRINGS - l.from
