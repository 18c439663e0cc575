use Rattle.std.proofs.Common.{◌++◌, ap, ◌∙◌}
use Rattle.std.specs.Prelude.{slice_index}
use Rattle.roster_model.specs.declared.profile.TheConstants.{MIDDLE_RUN, LONG_RUN, SHORT_RUN, MOST_DUTY_IN_7_DAYS, MOST_DUTY_IN_14_DAYS, MOST_DUTY_IN_28_DAYS, MOST_FLIGHT_IN_28_DAYS}
use Rattle.roster_cumulative.proofs.JudgedSums.{capped_runs, runs-of_tables, sums-of_runs}
use Rattle.roster_cumulative.proofs.judged.capped_sums.Goals as goal

pub returns : goal.returns
returns c =
    let days = c.args.days.now in
    let list = c.args.list.now in
    let year = c.args.year in
    let eleven = c.args.eleven in
    let duty = slice_index c.minutes_by_day-duty.result in
    let flight = slice_index c.minutes_by_day-flight.result in
    let runs =
    c.in_ok-push_runs-4.ensures
    ∙ ap (λ xs. xs ++ capped_runs flight days LONG_RUN MOST_FLIGHT_IN_28_DAYS) (c.in_ok-push_runs-3.ensures
    ∙ ap (λ xs. xs ++ capped_runs duty days LONG_RUN MOST_DUTY_IN_28_DAYS) (c.in_ok-push_runs-2.ensures
    ∙ ap (λ xs. xs ++ capped_runs duty days MIDDLE_RUN MOST_DUTY_IN_14_DAYS) (c.in_ok-push_runs.ensures
    ∙ ap (λ xs. xs ++ capped_runs duty days SHORT_RUN MOST_DUTY_IN_7_DAYS) c.new-sums.ensures.items)))
    ∙ runs-of_tables days list year eleven c.minutes_by_day-duty.result c.minutes_by_day-flight.result c.minutes_by_day-duty.ensures c.minutes_by_day-flight.ensures in
    c.in_ok-push_turn.ensures
    ∙ sums-of_runs days list year eleven c.month_sum-month.result runs c.month_sum-month.ensures
