use Rattle.std.proofs.Common.{List, subst}
use Rattle.roster_model.specs.Calendar.{Days}
use Rattle.roster_model.specs.Problem.{leaves_of}
use Rattle.roster_model.specs.records.Duty.{Duty}
use Rattle.roster_model.specs.Rules.{duty_list, Duty14, Duty28, Flight28}
use Rattle.roster_model.specs.Rules.Leave.{KeepsLeave}
use Rattle.roster_model.specs.Rules.Recovery.{KeepsRecovery}
use Rattle.roster_legal_reasons.proofs.LimitsTold.{limit_told}
use Rattle.roster_legal_reasons.proofs.rules.reason_for.Goals as goal

pub returns-in_err-first_duty_in_leave-in-Leave : goal.returns-in_err-first_duty_in_leave-in-Leave
returns-in_err-first_duty_in_leave-in-Leave c =
    let kept = subst (λ (list : List Duty). KeepsLeave (leaves_of c.args.problem.now c.args.k) list) c.requires.list c.in_err-first_duty_in_leave-in-Leave.ensures in
    rw (c.from_residual-in_err-first_duty_in_leave-in-Leave.ensures, c.in-Leave.is) kept

pub returns-in_err-first_long_block-in-Recovery : goal.returns-in_err-first_long_block-in-Recovery
returns-in_err-first_long_block-in-Recovery c =
    let kept = subst (λ (days : Days). KeepsRecovery days (duty_list c.args.problem.now c.args.k c.args.set.now)) c.days_of.ensures
    (subst (λ (list : List Duty). KeepsRecovery c.days_of.result.now list) c.requires.list c.in_err-first_long_block-in-Recovery.ensures) in
    rw (c.from_residual-in_err-first_long_block-in-Recovery.ensures, c.in-Recovery.is) kept

pub returns-in-Duty14 : goal.returns-in-Duty14
returns-in-Duty14 c =
    rw c.in-Duty14.is (limit_told c.args.problem.now c.args.k c.args.set.now c.args.list.now Duty14 c.limit_reason-in-Duty14.result c.requires.list c.limit_reason-in-Duty14.ensures)

pub returns-in-Duty28 : goal.returns-in-Duty28
returns-in-Duty28 c =
    rw c.in-Duty28.is (limit_told c.args.problem.now c.args.k c.args.set.now c.args.list.now Duty28 c.limit_reason-in-Duty28.result c.requires.list c.limit_reason-in-Duty28.ensures)

pub returns-in-Flight28 : goal.returns-in-Flight28
returns-in-Flight28 c =
    rw c.in-Flight28.is (limit_told c.args.problem.now c.args.k c.args.set.now c.args.list.now Flight28 c.limit_reason-in-Flight28.result c.requires.list c.limit_reason-in-Flight28.ensures)
