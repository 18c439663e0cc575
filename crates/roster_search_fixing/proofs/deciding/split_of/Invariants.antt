use Rattle.std.proofs.Common.{◌≡◌, ℕ, ◌<◌, ◌-◌, ◌≤◌, true}
use Rattle.roster_model.specs.declared.limits.TheConstants.{MOST_PAIRINGS}
use Rattle.roster_model.specs.Rules.{is_among}
use Rattle.roster_search_regions.specs.Regions.{IsSplit}
use Rattle.roster_search_fixing.proofs.deciding.split_of.Given as goal

-- no pairing so far splits the lines
abbrev pub invariant-loop-p : goal.invariant-loop-p
invariant-loop-p l = record {
  none : (q : ℕ) → q < l.from → is_among l.possible q ≡ true → ¬ IsSplit l.region l.k q;
  within : l.from ≤ MOST_PAIRINGS;
}

abbrev pub decreases-loop-p : goal.decreases-loop-p
decreases-loop-p l = MOST_PAIRINGS - l.from
