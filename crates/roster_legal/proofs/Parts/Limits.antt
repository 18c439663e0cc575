-- The limits over a part of a duty list.
use Rattle.std.proofs.Common.{ℕ, ◌+◌, ◌≤◌, Bool, not, List, get_or, refl, arith}
use Rattle.std.specs.Prelude.{filter}
use Rattle.std.proofs.lemmas.List.Filters.{sum_by-filter_both}
use Rattle.roster_model.proofs.LimitLemmas.{KeepsLimit-lighter, in_month-lighter}
use Rattle.roster_model.specs.Calendar.{Days}
use Rattle.roster_model.specs.declared.profile.TheConstants.{SHORT_RUN, MIDDLE_RUN, LONG_RUN, MOST_DUTY_IN_7_DAYS, MOST_DUTY_IN_14_DAYS, MOST_DUTY_IN_28_DAYS, MOST_FLIGHT_IN_28_DAYS}
use Rattle.roster_model.specs.records.Duty.{Duty}
use Rattle.roster_model.specs.Rules.{Limit, Duty7, Duty14, Duty28, Flight28, FlightYear, Flight12, HoldsLimit}
use Rattle.roster_model.specs.Rules.Limits.{KeepsLimit}
use Rattle.roster_model.specs.Sums.{duty_between, flight_between, month_flight, on_day}

-- some of the duties have no more minutes on a day
on_day-filter : (measure : Duty → ℕ → ℕ → ℕ) (days : Days) (test : Duty → Bool) (list : List Duty) (i : ℕ)
    → on_day measure days (filter test list) i ≤ on_day measure days list i
on_day-filter measure days test list i =
    let minutes = λ (duty : Duty). measure duty (get_or days.mid i 0) (get_or days.mid (i + 1) 0) in
    let both = sum_by-filter_both test (λ duty. not (test duty)) (λ duty. refl) minutes list in
    omega (arith, both)

KeepsLimit-filter : (measure : Duty → ℕ → ℕ → ℕ) (days : Days) (test : Duty → Bool) (list : List Duty) (n most : ℕ) → KeepsLimit (on_day measure days list) days n most → KeepsLimit (on_day measure days (filter test list)) days n most
KeepsLimit-filter measure days test list n most keeps =
    KeepsLimit-lighter (on_day measure days (filter test list)) (on_day measure days list)
    (on_day-filter measure days test list) days n most keeps

month_flight-filter : (days : Days) (test : Duty → Bool) (list : List Duty)
    → month_flight days (filter test list) ≤ month_flight days list
month_flight-filter days test list =
    in_month-lighter (on_day flight_between days (filter test list)) (on_day flight_between days list)
    (on_day-filter flight_between days test list) days

pub HoldsLimit-filter : (days : Days) (test : Duty → Bool) (list : List Duty) (year eleven : ℕ) (limit : Limit) → HoldsLimit days list year eleven limit → HoldsLimit days (filter test list) year eleven limit
HoldsLimit-filter days test list year eleven Duty7 holds =
    KeepsLimit-filter duty_between days test list SHORT_RUN MOST_DUTY_IN_7_DAYS holds
HoldsLimit-filter days test list year eleven Duty14 holds =
    KeepsLimit-filter duty_between days test list MIDDLE_RUN MOST_DUTY_IN_14_DAYS holds
HoldsLimit-filter days test list year eleven Duty28 holds =
    KeepsLimit-filter duty_between days test list LONG_RUN MOST_DUTY_IN_28_DAYS holds
HoldsLimit-filter days test list year eleven Flight28 holds =
    KeepsLimit-filter flight_between days test list LONG_RUN MOST_FLIGHT_IN_28_DAYS holds
HoldsLimit-filter days test list year eleven FlightYear holds =
    let fewer = month_flight-filter days test list in omega (arith, fewer, holds)
HoldsLimit-filter days test list year eleven Flight12 holds =
    let fewer = month_flight-filter days test list in omega (arith, fewer, holds)
