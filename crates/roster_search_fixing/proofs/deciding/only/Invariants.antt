use Rattle.std.proofs.Common.{◌≡◌, ℕ, ◌<◌, length, get_or}
use Rattle.roster_search_fixing.specs.Splits.{IsNumberOf}
use Rattle.roster_search_fixing.proofs.deciding.only.Given as goal

-- the numbers of the pairings so far
abbrev pub invariant-loop-p : goal.invariant-loop-p
invariant-loop-p l = record {
  covers : length l.places.items ≡ l.p;
  each : (q : ℕ) → q < l.p → IsNumberOf l.problem l.region q (get_or l.places.items q 0);
}
