use Rattle.std.proofs.Common.{subst}
use Rattle.clap.specs.Words.{found_of, rows_of}
use Rattle.roster_desk_arguments.specs.Line.{IsWhole}
use Rattle.roster_desk_arguments.proofs.Whole.{no_other, of_plan, of_why, of_limits, of_table, of_chart, of_diff, of_assigns, of_fault, of_warn, of_fair, of_carry}
use Rattle.roster_desk_arguments.proofs.asked.asked_of.Goals as goal

pub returns-in-plan-clause-some : goal.returns-in-plan-clause-some
returns-in-plan-clause-some c = λ whole _ _.
    let rows = rows_of (found_of c.args.found.now) in
    let has = of_plan rows (subst (λ name. IsWhole name rows) c.in-plan.is whole) in
    c.planned.ensures.some has

pub returns-in-why-clause-some : goal.returns-in-why-clause-some
returns-in-why-clause-some c = λ whole _ _.
    let rows = rows_of (found_of c.args.found.now) in
    let has = of_why rows (subst (λ name. IsWhole name rows) c.in-why.is whole) in
    c.why.ensures.some has

pub returns-in-limits-clause-some : goal.returns-in-limits-clause-some
returns-in-limits-clause-some c = λ whole _ _.
    let rows = rows_of (found_of c.args.found.now) in
    let has = of_limits rows (subst (λ name. IsWhole name rows) c.in-limits.is whole) in
    c.limits.ensures.some has

pub returns-in-table-clause-some : goal.returns-in-table-clause-some
returns-in-table-clause-some c = λ whole _ _.
    let rows = rows_of (found_of c.args.found.now) in
    let has = of_table rows (subst (λ name. IsWhole name rows) c.in-table.is whole) in
    c.table.ensures.some has

pub returns-in-chart-clause-some : goal.returns-in-chart-clause-some
returns-in-chart-clause-some c = λ whole _ _.
    let rows = rows_of (found_of c.args.found.now) in
    let has = of_chart rows (subst (λ name. IsWhole name rows) c.in-chart.is whole) in
    c.chart.ensures.some has

pub returns-in-diff-clause-some : goal.returns-in-diff-clause-some
returns-in-diff-clause-some c = λ whole _ _.
    let rows = rows_of (found_of c.args.found.now) in
    let has = of_diff rows (subst (λ name. IsWhole name rows) c.in-diff.is whole) in
    c.differences.ensures.some has.0 has.1

pub returns-in-assigns-clause-some : goal.returns-in-assigns-clause-some
returns-in-assigns-clause-some c = λ whole _ _.
    let rows = rows_of (found_of c.args.found.now) in
    let has = of_assigns rows (subst (λ name. IsWhole name rows) c.in-assigns.is whole) in
    c.assigns.ensures.some has

pub returns-in-fault-clause-some : goal.returns-in-fault-clause-some
returns-in-fault-clause-some c = λ whole _ _.
    let rows = rows_of (found_of c.args.found.now) in
    let has = of_fault rows (subst (λ name. IsWhole name rows) c.in-fault.is whole) in
    c.of_records.ensures.some has

pub returns-in-warn-clause-some : goal.returns-in-warn-clause-some
returns-in-warn-clause-some c = λ whole _ _.
    let rows = rows_of (found_of c.args.found.now) in
    let has = of_warn rows (subst (λ name. IsWhole name rows) c.in-warn.is whole) in
    c.of_records-in-warn.ensures.some has

pub returns-in-fair-clause-some : goal.returns-in-fair-clause-some
returns-in-fair-clause-some c = λ whole _ _.
    let rows = rows_of (found_of c.args.found.now) in
    let has = of_fair rows (subst (λ name. IsWhole name rows) c.in-fair.is whole) in
    c.of_records-in-fair.ensures.some has

pub returns-in-carry-clause-some : goal.returns-in-carry-clause-some
returns-in-carry-clause-some c = λ whole _ _.
    let rows = rows_of (found_of c.args.found.now) in
    let has = of_carry rows (subst (λ name. IsWhole name rows) c.in-carry.is whole) in
    c.carried.ensures.some has.0 has.1

-- another name is none of a command
pub returns-in_default-clause-some : goal.returns-in_default-clause-some
returns-in_default-clause-some c = λ whole book repair.
    absurd (no_other c.args.command.now (rows_of (found_of c.args.found.now)) (c.in_default.not-plan, (c.in_default.not-why, (c.in_default.not-limits, (c.in_default.not-table, (c.in_default.not-chart, (c.in_default.not-diff, (c.in_default.not-assigns, (c.in_default.not-fault, (c.in_default.not-warn, (repair, (book, (c.in_default.not-fair, (c.in_default.not-carry, tt))))))))))))) whole)
