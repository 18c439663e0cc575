use Rattle.std.proofs.Common.{◌≡◌, ℕ, true, [], take}
use Rattle.roster_model.specs.Rules.{is_among}
use Rattle.roster_search_regions.specs.Trees.{lines_in, path_after, ArePossible}
use Rattle.roster_search_regions.proofs.rows.Rows.possible.Given as goal

-- the pairings of the lines so far are in, those of the last one too
abbrev pub invariant-loop-i : goal.invariant-loop-i
invariant-loop-i l = record {
  some : ArePossible (lines_in (take l.i l.self)) l.possible;
  last : (p : ℕ) → is_among (path_after [] (take l.i l.self)) p ≡ true → is_among l.possible p ≡ true;
}
