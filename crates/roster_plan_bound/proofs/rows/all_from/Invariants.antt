use Rattle.std.proofs.Common.{◌≡◌, ◌+◌, ◌-◌, ◌<◌, ◌≤◌, ℕ, true, false}
use Rattle.roster_model.specs.Rules.{is_among}
use Rattle.roster_model.specs.declared.limits.TheConstants.{MOST_PAIRINGS}
use Rattle.roster_plan_bound.proofs.rows.all_from.Given as goal

-- the place lies behind the pairing, and there is none behind the last pairing of all; it lies just behind one
-- that may not follow, and those from it on that were seen may
abbrev pub invariant-loop-q : goal.invariant-loop-q
invariant-loop-q l = record {
  behind : l.p < l.from;
  inside : l.from ≤ l.count;
  next : l.from ≤ l.next;
  follow : (q : ℕ) → l.from ≤ q → q < l.next → is_among l.first q ≡ true → is_among l.followers q ≡ true;
  last : l.p + 1 < l.from → (q : ℕ) × (l.from ≡ q + 1)
      × (is_among l.first q ≡ true) × (is_among l.followers q ≡ false);
}

abbrev pub decreases-loop-q : goal.decreases-loop-q
decreases-loop-q l = MOST_PAIRINGS - l.next
