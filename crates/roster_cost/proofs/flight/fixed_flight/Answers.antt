use Rattle.std.proofs.Common.{ℕ, ◌*◌, ◌≤◌, List, length, ap, subst, ◌∙◌, arith}
use Rattle.std.proofs.lemmas.List.Elements.{All-filter}
use Rattle.std.proofs.lemmas.List.Sums.{length-filter, count_by-le-length}
use Rattle.roster_model.specs.Calendar.{IsTable}
use Rattle.roster_model.specs.Costs.{flight_of}
use Rattle.roster_model.specs.Problem.{home_of}
use Rattle.roster_model.specs.Rules.{duty_list, is_listed}
use Rattle.roster_model.specs.Sums.{month_flight}
use Rattle.roster_model.specs.declared.limits.TheConstants.{MOST_MONTH_MINUTES}
use Rattle.roster_problem.specs.Sectors.{AreSectors}
use Rattle.roster_cost.proofs.Flights.{fixed-listed}
use Rattle.roster_cost.proofs.flight.fixed_flight.Goals as goal

pub returns-clause-value : goal.returns-clause-value
returns-clause-value c =
    c.flight_at.ensures ∙ ap (month_flight (home_of c.args.problem.now c.args.k).days) (c.fixed.ensures.positions.elements ∙ fixed-listed c.args.problem.now c.args.k)

bounded : (c : goal.After-flight_at) (set : List ℕ) → flight_of c.args.problem.now c.args.k set ≤ length (duty_list c.args.problem.now c.args.k set) * MOST_MONTH_MINUTES
bounded c set =
    let problem = c.args.problem.now in
    let table = subst IsTable c.days_of.ensures c.month_days.ensures.table in
    let flown =
    All-filter (λ duty. is_listed c.args.k set duty.holder)
    (λ duty. AreSectors duty.report duty.release duty.sectors) problem.duties c.duties.ensures.flown in
    c.flight_of_duties.ensures.bound (home_of problem c.args.k).days
    (duty_list problem c.args.k set) table flown

pub returns-clause-bound : goal.returns-clause-bound
returns-clause-bound c set = bounded c set

pub returns-clause-most : goal.returns-clause-most
returns-clause-most c set =
    let problem = c.args.problem.now in
    let listed = length-filter (λ duty. is_listed c.args.k set duty.holder) problem.duties in
    let some = count_by-le-length (λ duty. is_listed c.args.k set duty.holder) problem.duties in
    omega (arith, bounded c set, listed, some, c.duties.ensures.sound.duties)
