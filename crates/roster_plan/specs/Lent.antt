-- What all steps of a plan are lent.
use Rattle.std.specs.Prelude.{◌≡◌}
use Rattle.roster_lines.specs.Listing.{AreAllPairs}
use Rattle.roster_plan.specs.declared.lent.Lent.{Lent}

-- the pairs are those of the problem, and so are the networks of prices
pub record IsLent (lent : Lent) : Type 0 where
  pub pairs : AreAllPairs lent.problem.now lent.pairs.now
  pub pricing : lent.pricing.now ≡ lent.problem.now
