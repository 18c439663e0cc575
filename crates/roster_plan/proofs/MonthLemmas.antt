-- Months that go on from one another.
use Rattle.std.proofs.Common.{◌≡◌, ℕ, Some, refl, sym, subst, ◌∙◌, ℤ, ◌≤ℤ◌}
use Rattle.std.specs.Prelude.{slice_get}
use Rattle.std.proofs.lemmas.Option.{get_or_from_slice_get}
use Rattle.roster_model.specs.Problem.{Problem}
use Rattle.roster_model.specs.Rosters.{Key}
use Rattle.roster_plan.specs.declared.months.Month.{Month}
use Rattle.roster_plan.specs.declared.parts.BasePlan.{BasePlan}
use Rattle.roster_plan.specs.Months.{HasBound, IsMonth, IsMonthFrom}
use Rattle.roster_plan.proofs.PlannedLemmas.{on_from, same_on}

-- what goes on from a month goes on from what that goes on from
pub month_on : (problem : Problem) (before : Key) (mid month : Month) → IsMonthFrom problem before mid
    → IsMonthFrom problem mid.planned.roster month → IsMonthFrom problem before month
month_on problem before mid month first then = record {
  parts = then.parts;
  planned = on_from problem before mid.planned month.planned first.planned then.planned;
}

-- a month goes on from itself
pub month_same : (problem : Problem) (month : Month) → IsMonth problem month
    → IsMonthFrom problem month.planned.roster month
month_same problem month is = record {
  parts = is.parts;
  planned = same_on problem month.planned.roster month.planned is.known refl;
}

-- what goes on from a month is one
pub month_of : (problem : Problem) (before : Key) (month : Month) → IsMonthFrom problem before month
    → IsMonth problem month
month_of problem before month from = record { parts = from.parts; known = from.planned.known }

-- the part that stands at a base says what bound is known of it
pub has_bound : (base : ℕ) (bound : ℤ) (month : Month) (made : BasePlan)
    → slice_get month.parts.items base ≡ Some made
    → bound ≤ℤ made.bound → HasBound base bound month
has_bound base bound month made stands least part at =
    let same : made ≡ part =
    sym (get_or_from_slice_get month.parts.items base made part stands)
    ∙ get_or_from_slice_get month.parts.items base part part at in
    subst (λ (p : BasePlan). bound ≤ℤ p.bound) same least
