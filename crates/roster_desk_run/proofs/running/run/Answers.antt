use Rattle.std.proofs.Common.{Option, List, ℕ}
use Rattle.std.specs.Prelude.{option_map}
use Rattle.roster_desk_run.specs.Run.{IsAnswerTo, IsPlanFrom, IsPlanOfBook}
use Rattle.roster_desk_run.proofs.PlanAnswers.{answer_of_book, plan_of_book, start_of_book, text_of_book}
use Rattle.roster_desk_run.proofs.running.run.Goals as goal

pub returns-in-Ok-clause-answered : goal.returns-in-Ok-clause-answered
returns-in-Ok-clause-answered g c = λ answered.
    let report : Option (List ℕ) = option_map (λ bytes. bytes.now) c.args.report in
    text_of_book c.in-Ok.book _ (IsPlanFrom report c.in-Ok.book.problem c.in-Ok.book.assigned) _
    (IsPlanOfBook report) (λ records is. plan_of_book report records c.in-Ok.book is)
    (c.answer.ensures.answered answered) c.in-Ok.ensures.book

pub returns-in-Ok-clause-part : goal.returns-in-Ok-clause-part
returns-in-Ok-clause-part g c = λ failed.
    let report : Option (List ℕ) = option_map (λ bytes. bytes.now) c.args.report in
    text_of_book c.in-Ok.book _ (IsPlanFrom report c.in-Ok.book.problem c.in-Ok.book.assigned) _
    (IsAnswerTo report) (λ records is. answer_of_book report records c.in-Ok.book is)
    (c.answer.ensures.part failed) c.in-Ok.ensures.book

pub returns-in-Ok-clause-start_wrong : goal.returns-in-Ok-clause-start_wrong
returns-in-Ok-clause-start_wrong g c = λ refused.
    let report : Option (List ℕ) = option_map (λ bytes. bytes.now) c.args.report in
    start_of_book c.in-Ok.book _ report c.answer.result (c.answer.ensures.start_wrong refused) c.in-Ok.ensures.book
