-- What a round of fixing by a bound counts on.
use Rattle.std.specs.Prelude.{◌≡◌, List, length, ℤ, All}
use Rattle.roster_model.specs.Problem.{Problem}
use Rattle.roster_cost.specs.Amounts.{IsWithin}
use Rattle.roster_search_regions.specs.declared.choice.TheConstants.{MOST_VALUE}
use Rattle.roster_search_regions.specs.Regions.{Region}
use Rattle.roster_search_regions.specs.declared.terms.TheConstants.{MOST_TERM}
use Rattle.roster_search_fixing.specs.declared.tightening.TheConstants.{MOST_SLACK}
use Rattle.roster_search_fixing.specs.declared.tightening.Bounds.{Bounds}
use Rattle.roster_search_fixing.specs.Bounds.{IsSlack}

-- the numbers and the slack are within their limits
pub record AreNear (bounds : Bounds) : Type 0 where
  pub values : All (IsWithin MOST_VALUE) bounds.values.items
  pub terms : All (IsWithin MOST_TERM) bounds.terms.items
  pub slack : IsWithin MOST_SLACK bounds.slack

-- one number for each person and each pairing, and a slack above them
pub record IsUse (problem : Problem) (region : Region) (prices : List ℤ) (paid : ℤ) (bounds : Bounds)
    (most : ℤ) : Type 0 where
  pub persons : length bounds.values.items ≡ length problem.persons
  pub pairings : length bounds.terms.items ≡ length problem.pairings
  pub near : AreNear bounds
  pub is_slack : IsSlack problem region prices paid bounds.values.items bounds.terms.items most bounds.slack
