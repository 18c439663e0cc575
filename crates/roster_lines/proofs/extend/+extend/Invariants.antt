use Rattle.std.proofs.Common.{◌≡◌, ℕ, ◌-◌, ◌≤◌, ◌++◌, ◌∷◌, List, [], length, Some}
use Rattle.std.specs.Prelude.{slice_get}
use Rattle.roster_model.specs.declared.limits.TheConstants.{MOST_PAIRINGS}
use Rattle.roster_lines_table.specs.Entries.{sets_of}
use Rattle.roster_lines_table.specs.Person.{AreCosted}
use Rattle.roster_lines.specs.Listing.{IsUpTo}
use Rattle.roster_lines.proofs.extend.+extend.Given as goal

abbrev pub decreases-extend : goal.decreases-extend
decreases-extend g l = MOST_PAIRINGS - length l.stem.now.set

-- the lines before those that go on from the stem with a later candidate
abbrev pub invariant-loop-p : goal.invariant-loop-p
invariant-loop-p g l = record {
  within : l.from ≤ length l.listing.problem.now.pairings;
  lines : IsUpTo l.listing.problem.now l.listing.k (g.W.Wanted.wants l.listing.wanted.now l.listing.problem.now l.listing.k) (l.stem.set ++ l.from ∷ [])
      (sets_of l.lines);
  costs : AreCosted l.listing.problem.now l.listing.k l.lines;
  few : length l.lines ≤ l.listing.most;
  kept : (i : ℕ) (set : List ℕ) → slice_get (sets_of l.initial.lines) i ≡ Some set
      → slice_get (sets_of l.lines) i ≡ Some set;
}

abbrev pub decreases-loop-p : goal.decreases-loop-p
decreases-loop-p g l = MOST_PAIRINGS - l.from
