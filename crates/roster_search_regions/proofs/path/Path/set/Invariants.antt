use Rattle.std.proofs.Common.{◌≡◌, ℕ, take}
use Rattle.roster_model.specs.Rules.{is_among}
use Rattle.roster_search_regions.proofs.path.Path.set.Given as goal

-- the set has the pairings so far
abbrev pub invariant-loop-i : goal.invariant-loop-i
invariant-loop-i l = (p : ℕ) → is_among l.set p ≡ is_among (take l.i l.self) p
