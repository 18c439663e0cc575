use Rattle.std.proofs.Common.{◌≡◌, ap, ◌∙◌}
use Rattle.roster_model.specs.Problem.{year_of, eleven_of}
use Rattle.roster_model.specs.records.Crew.{Person}
use Rattle.roster_legal.proofs.Stepped.{rooms-fixed, year-of_person}
use Rattle.roster_legal.proofs.stepping.fixed_rooms.Goals as goal

pub returns : goal.returns
returns c =
    let problem = c.args.problem.now in
    let k = c.args.k in
    let person = c.person-person.result.now in
    let flown = year-of_person problem k person c.person-person.ensures in
    let year : c.person.inside.year ≡ year_of problem k =
    ap (λ (p : Person). p.year) c.person.view_is ∙ flown.0 in
    let eleven : c.person.inside.eleven ≡ eleven_of problem k =
    ap (λ (p : Person). p.eleven) c.person.view_is ∙ flown.1 in
    rooms-fixed problem k c.days_of.result.now _ c.person.inside.year c.person.inside.eleven c.in_ok-rooms.rooms.items c.in_ok-rooms.ensures c.days_of.ensures c.requires.list year eleven
