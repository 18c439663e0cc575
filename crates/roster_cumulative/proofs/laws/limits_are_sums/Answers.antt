use Rattle.std.proofs.Common.{◌+◌, ◌≤◌, arith}
use Rattle.roster_model.specs.declared.profile.TheConstants.{MOST_FLIGHT_IN_A_YEAR, MOST_FLIGHT_IN_12_MONTHS}
use Rattle.roster_model.specs.Rules.{FlightYear, Flight12}
use Rattle.roster_model.specs.Sums.{month_flight}
use Rattle.roster_cumulative.proofs.JudgedSums.{limits-by_sums, sums-by_limits}
use Rattle.roster_cumulative.proofs.laws.limits_are_sums.Goals as goal

pub returns : goal.returns
returns c days list year eleven = (
  λ holds.
      let in_year : year + month_flight days list ≤ MOST_FLIGHT_IN_A_YEAR = holds FlightYear in
      let in_twelve : eleven + month_flight days list ≤ MOST_FLIGHT_IN_12_MONTHS = holds Flight12 in
      (omega arith, omega arith, sums-by_limits days list year eleven holds),
  λ within. limits-by_sums days list year eleven within.0 within.1 within.2,
)
