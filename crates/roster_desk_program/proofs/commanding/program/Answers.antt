use Rattle.std.proofs.Common.{sym, ◌∙◌}
use Rattle.roster_book.specs.Reading.{OfTold}
use Rattle.roster_watched.specs.Watch.{inner_of}
use Rattle.roster_report.specs.Writing.{Writes}
use Rattle.roster_desk_run.specs.Run.{IsPlanOfBook}
use Rattle.roster_desk_program.specs.Ending.{IsEnding, start_of}
use Rattle.roster_desk_program.specs.Files.{shelf_of}
use Rattle.roster_desk_program.proofs.Reports.{is_planned, of_report}
use Rattle.roster_desk_program.proofs.commanding.program.Goals as goal

pub returns-clause-answered : goal.returns-clause-answered
returns-clause-answered g c = λ ends.
    let bytes_at = g.S.Shelf.bytes_at (shelf_of c.args.files.now) in
    let book = bytes_at c.args.line.now.book.now in
    let old = c.args.writer.now in
    let new = c.plan_line-ending.new.writer in
    let ending = c.plan_line-ending.result in
    of_report (λ report. IsEnding g.W.Write.contents book report old new ending)
    (λ report. OfTold (λ records. Writes (IsPlanOfBook report records) (g.W.Write.contents (inner_of old)) (g.W.Write.contents (inner_of new))) book)
    (λ report is. is.planned (is_planned ending (sym c.exit_code.ensures.number ∙ ends)))
    bytes_at (start_of c.args.line.now) c.plan_line-ending.ensures.ends
