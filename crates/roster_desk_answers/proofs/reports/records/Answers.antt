use Rattle.roster_desk_answers.proofs.Assigns.{are_assigns}
use Rattle.roster_desk_answers.proofs.reports.records.Goals as goal

pub returns-clause-records : goal.returns-clause-records
returns-clause-records c =
    are_assigns _ _ c.in_ok-report.report.crew.items c.in_ok-report.ensures.given c.in_ok-report.ensures.sound
    c.in_ok-text.ensures.sound c.in_ok-text.ensures.records
