use Rattle.std.proofs.Common.{◌∙◌}
use Rattle.roster_book.specs.Draft.{tables_of_draft}
use Rattle.roster_book.proofs.BusyTimes.{busy_with}
use Rattle.roster_book.proofs.draft.Draft.is_busy.Goals as goal

pub returns-then-is_on_duty : goal.returns-then-is_on_duty
returns-then-is_on_duty c =
    let parts = busy_with (tables_of_draft c.args.self.now) c.args.person c.args.from c.args.to c.is_on_duty-is_on_duty.result c.is_on_leave-is_on_leave.result c.is_on_duty-is_on_duty.ensures c.is_on_leave-is_on_leave.ensures in
    c.if-is_on_duty.true ∙ (rw c.if-is_on_duty.true at parts)

pub returns-else-is_on_duty : goal.returns-else-is_on_duty
returns-else-is_on_duty c =
    let parts = busy_with (tables_of_draft c.args.self.now) c.args.person c.args.from c.args.to c.is_on_duty-is_on_duty.result c.is_on_leave-is_on_leave.result c.is_on_duty-is_on_duty.ensures c.is_on_leave-is_on_leave.ensures in
    rw c.if-is_on_duty.false at parts
