-- Searches of bases, each apart.
use Rattle.std.specs.Prelude.{◌≡◌, ◌<◌, All, IfOk, IfSome, List}
use Rattle.roster_model.specs.declared.limits.TheConstants.{MOST_BASES}
use Rattle.roster_model.specs.Problem.{Problem}
use Rattle.roster_plan.specs.Exact.{IsExact}
use Rattle.roster_plan.specs.declared.apart.Gap.{Gap}
use Rattle.roster_plan.specs.declared.whole.Whole.{Whole}

-- what was found of the base, if anything was, is so, unless memory ran out
pub record IsWhole (problem : Problem) (whole : Whole) : Type 0 where
  pub base : whole.base < MOST_BASES
  pub found : IfOk whole.found (λ found. IfSome found (IsExact problem whole.base))

-- so it is with all
abbrev pub AreWholes : Problem → List Whole → Type 0
AreWholes problem wholes = All (IsWhole problem) wholes

-- the prices are of the base, and what was found of it is so, unless memory ran out
pub record IsGap (problem : Problem) (gap : Gap) : Type 0 where
  pub base : gap.base < MOST_BASES
  pub same : gap.priced.problem ≡ problem
  pub of : gap.priced.base ≡ gap.base
  pub found : IfOk gap.found (IsExact problem gap.base)

-- so it is with all
abbrev pub AreGaps : Problem → List Gap → Type 0
AreGaps problem gaps = All (IsGap problem) gaps
