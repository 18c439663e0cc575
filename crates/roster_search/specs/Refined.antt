-- What is left of a region in the search for a roster that costs at most so much.
use Rattle.std.specs.Prelude.{ℤ, Bool, MatchBool}
use Rattle.roster_model.specs.Problem.{Problem}
use Rattle.roster_model.specs.Settled.{IsWithinCost}
use Rattle.roster_search_regions.specs.Regions.{IsIn, IsNarrowed, Region}
use Rattle.roster_search_fixing.specs.Bounds.{CostsAtMost, IsAllAbove}
use Rattle.roster_search.specs.declared.refining.Refined.{Refined}
use Rattle.roster_search.specs.declared.refining.Refined.TheVariants.{Found, Nothing, Part}

-- Nothing, and then each roster of the region costs more; or a part of it that has all that cost at most so
-- much, and perhaps a roster of the region that does.
abbrev pub IsRefined : Problem → ℤ → Region → Region → Refined → Type 0
IsRefined problem most old new Nothing = IsAllAbove problem old most
IsRefined problem most old new (Found roster) =
    IsWithinCost problem (IsIn problem old) most roster × IsNarrowed problem (CostsAtMost problem most) old new
IsRefined problem most old new Part = IsNarrowed problem (CostsAtMost problem most) old new

-- The region has lost nothing that costs at most so much; or, if that is false, each of its rosters costs
-- more.
abbrev pub IsFixed : Problem → ℤ → Region → Region → Bool → Type 0
IsFixed problem most old new left =
    MatchBool left (IsNarrowed problem (CostsAtMost problem most) old new) (IsAllAbove problem old most)
