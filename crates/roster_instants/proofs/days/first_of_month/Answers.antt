use Rattle.std.proofs.Common.{rules, arith}
use Rattle.roster_instants.proofs.DayLemmas.{day_of_date, day_from_earliest, day_to_latest}
use Rattle.roster_instants.proofs.days.first_of_month.Goals as goal

pub returns-clause-number : goal.returns-clause-number
returns-clause-number c =
    day_of_date c.date.result c.args.period.year c.args.period.month 1 (omega arith) (search rules)

pub returns-clause-from : goal.returns-clause-from
returns-clause-from c =
    day_from_earliest c.args.period.year c.args.period.month 1 c.year.ensures.from (omega arith)

pub returns-clause-to : goal.returns-clause-to
returns-clause-to c = day_to_latest c.args.period.year c.args.period.month c.year.ensures.from c.year.ensures.to c.month.ensures.from c.month.ensures.to
