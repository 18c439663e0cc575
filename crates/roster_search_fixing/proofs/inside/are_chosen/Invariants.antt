use Rattle.std.proofs.Common.{ℕ, ◌<◌}
use Rattle.roster_model.specs.Places.{set_of}
use Rattle.roster_search_regions.specs.Regions.{lines_of}
use Rattle.roster_search_regions.specs.Trees.{Offers}
use Rattle.roster_search_fixing.proofs.inside.are_chosen.Given as goal

-- each person so far has one of their lines
abbrev pub invariant-loop-k : goal.invariant-loop-k
invariant-loop-k l = (j : ℕ) → j < l.k → Offers (lines_of l.region j) (set_of j l.places)
