use Rattle.std.proofs.Common.{◌∙◌, ap}
use Rattle.std.specs.List.{flat_map}
use Rattle.roster_desk_reports.specs.Known.{unknown_of}
use Rattle.roster_desk_reports.proofs.Passed.{given-text}
use Rattle.roster_desk_reports.proofs.unknown.unknown_text.Goals as goal

pub returns-clause-text : goal.returns-clause-text
returns-clause-text c =
    c.in_ok-unknown_in.ensures
    ∙ ap (flat_map (unknown_of c.args.problem.now)) (given-text c.args.text.now c.in_ok-report.report.crew.items c.in_ok-report.ensures.given)
