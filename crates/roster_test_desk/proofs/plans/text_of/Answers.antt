use Rattle.std.proofs.Common.{◌≡◌, rules, Some, subst}
use Rattle.std.specs.Process.{exit_status}
use Rattle.roster_model.specs.Answer.{records_of}
use Rattle.roster_model.specs.Plans.{IsPlanned}
use Rattle.roster_desk_program.specs.Ending.{start_of}
use Rattle.roster_test_desk.proofs.Known.{planned}
use Rattle.roster_test_desk.proofs.plans.text_of.Goals as goal

pub returns-then-eq : goal.returns-then-eq
returns-then-eq g c =
    let book = c.args.book.now in
    let old = c.new-writer.result.inner.items in
    let items = c.program-ended.new.writer.inner.items in
    let ends : exit_status c.program-ended.result ≡ 0 = search rules in
    let copied : items ≡ c.in_ok-from_slice.field-0.items = search rules in
    subst (IsPlanned (records_of book)) copied
    (planned (start_of c.line_of-line.result) (λ _. Some c.new-files.result.shelf.bytes.now) book c.new-files.result.shelf.bytes.now old items
    (search rules) (search rules) (search rules) (c.program-ended.ensures.answered ends))
