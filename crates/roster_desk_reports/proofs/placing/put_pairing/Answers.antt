use Rattle.std.proofs.Common.{rules, ◌≡◌, ◌<◌, ◌∙◌, Some, ap, length, slice_get}
use Rattle.std.proofs.lemmas.Option.{slice_get-get_or}
use Rattle.roster_desk_reports.specs.Given.{IsPairing}
use Rattle.roster_desk_reports.proofs.Taken.{free_name}
use Rattle.roster_desk_reports.proofs.placing.put_pairing.Goals as goal

pub returns-clause-sound : goal.returns-clause-sound
returns-clause-sound c before taken =
    let problem = c.args.problem.now in
    let old = c.args.places.now in
    let name = c.args.name.now in
    let p = c.in-Some.p in
    let named : IsPairing problem name p = search rules in
    let inside : p < length old = search rules in
    let at : slice_get old p ≡ Some c.open_number.result =
    slice_get-get_or old p 0 inside ∙ ap Some c.if-places-p.false in
    free_name problem old before name p c.open_number.result named taken c.open_number.ensures.value at
