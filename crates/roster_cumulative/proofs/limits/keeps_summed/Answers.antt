use Rattle.std.proofs.Common.{ℕ, get_or, rules}
use Rattle.roster_model.specs.Sums.{on_day}
use Rattle.roster_cumulative.specs.Table.{AreMinutesByDay, minutes_of}
use Rattle.roster_cumulative.proofs.InRun.{limit_agrees}
use Rattle.roster_cumulative.proofs.limits.keeps_summed.Goals as goal

pub returns-clause-value : goal.returns-clause-value
returns-clause-value c =
    let days = c.args.days.now in
    let list = c.args.list.now in
    let measure = c.args.measure in
    let table : AreMinutesByDay measure days list c.unwrap.result.now = search rules in
    limit_agrees (λ (i : ℕ). get_or c.unwrap.result.now i 0) (on_day (minutes_of measure) days list) table.value days c.args.n c.args.most c.keeps_limit.result c.keeps_limit.ensures
