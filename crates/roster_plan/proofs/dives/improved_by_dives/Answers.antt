use Rattle.roster_plan.proofs.MonthLemmas.{month_on, month_same}
use Rattle.roster_plan.proofs.dives.improved_by_dives.Goals as goal

pub returns-then-means-lt-LEAST_EFFORT : goal.returns-then-means-lt-LEAST_EFFORT
returns-then-means-lt-LEAST_EFFORT g c = month_same c.args.lent.now.problem.now c.args.start c.requires.month

pub returns : goal.returns
returns g c =
    month_on c.args.lent.now.problem.now c.args.start.planned.roster c.in_ok-dived.dived c.in_ok-month.month
    c.in_ok-dived.ensures c.in_ok-month.ensures
