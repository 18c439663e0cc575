use Rattle.std.proofs.Common.{◌≤◌, subst, arith}
use Rattle.roster_model.specs.records.Duty.{Duty}
use Rattle.roster_model.specs.Sums.{flight_between}
use Rattle.roster_cumulative.proofs.WholeDuties.{flown-whole}
use Rattle.roster_cumulative.proofs.whole.whole_of.Goals as goal

pub returns-in-Flight-clause-most : goal.returns-in-Flight-clause-most
returns-in-Flight-clause-most c = λ from to.
    let i = c.duty.inside in
    let are = c.duty.invariant.1 in
    let less =
    subst
    (λ (duty : Duty). flight_between duty from to ≤ flight_between duty i.report i.release) c.duty.view_is
    (flown-whole i.report i.release from to i.sectors.items are.begin are.end) in
    rw c.in-Flight.is (omega (arith, c.flight_between.ensures.value, less))
