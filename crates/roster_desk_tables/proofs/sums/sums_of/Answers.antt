use Rattle.std.proofs.Common.{◌∙◌, ap, ap₂, w64, FitsSigned, pos, rules}
use Rattle.std.proofs.lemmas.Int.{to_z-of_z}
use Rattle.roster_model.specs.declared.profile.TheConstants.{SHORT_RUN, MIDDLE_RUN, LONG_RUN}
use Rattle.roster_model.specs.Costs.{line_cost}
use Rattle.roster_model.specs.Sums.{greatest_duty, greatest_flight, month_flight}
use Rattle.roster_desk_tables.proofs.sums.sums_of.Goals as goal

pub returns : goal.returns
returns c =
    let problem = c.args.problem.now in
    let fit0 : FitsSigned w64 c.line_cost.result = search rules in
    let fit1 : FitsSigned w64 c.month_flight.result = search rules in
    let fit2 : FitsSigned w64 c.greatest_duty.result = search rules in
    let fit3 : FitsSigned w64 c.greatest_duty-2.result = search rules in
    let fit4 : FitsSigned w64 c.greatest_duty-3.result = search rules in
    let fit5 : FitsSigned w64 c.greatest_flight.result = search rules in
    record {
      cost = to_z-of_z w64 c.line_cost.result fit0 ∙ c.line_cost.ensures.value ∙ ap (line_cost problem c.args.k) c.set_with.ensures.value;
      flight = to_z-of_z w64 c.month_flight.result fit1 ∙ c.month_flight.ensures.value
          ∙ ap₂ (λ days list. pos (month_flight days list)) c.days_of-days.ensures c.in_ok-list.ensures;
      duty7 = to_z-of_z w64 c.greatest_duty.result fit2 ∙ c.greatest_duty.ensures.value
          ∙ ap₂ (λ days list. pos (greatest_duty days list SHORT_RUN)) c.days_of-days.ensures c.in_ok-list.ensures;
      duty14 = to_z-of_z w64 c.greatest_duty-2.result fit3 ∙ c.greatest_duty-2.ensures.value
          ∙ ap₂ (λ days list. pos (greatest_duty days list MIDDLE_RUN)) c.days_of-days.ensures c.in_ok-list.ensures;
      duty28 = to_z-of_z w64 c.greatest_duty-3.result fit4 ∙ c.greatest_duty-3.ensures.value
          ∙ ap₂ (λ days list. pos (greatest_duty days list LONG_RUN)) c.days_of-days.ensures c.in_ok-list.ensures;
      flight28 = to_z-of_z w64 c.greatest_flight.result fit5 ∙ c.greatest_flight.ensures.value
          ∙ ap₂ (λ days list. pos (greatest_flight days list LONG_RUN)) c.days_of-days.ensures c.in_ok-list.ensures;
    }
