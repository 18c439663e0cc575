use Rattle.std.proofs.Common.{◌∙◌, ap}
use Rattle.roster_model.proofs.SetLemmas.{places_of_number}
use Rattle.roster_model.specs.Problem.{home_of}
use Rattle.roster_model.specs.Rules.{duty_list}
use Rattle.roster_model.specs.Texts.{numbers_of}
use Rattle.roster_report.proofs.lines.numbers_of_person.Goals as goal

pub merge-requires-clause-places : goal.merge-requires-clause-places
merge-requires-clause-places c =
    rw (c.of_places-set.ensures, ← c.requires.covers) (places_of_number c.args.k c.args.places.now)

pub returns : goal.returns
returns c =
    let problem = c.args.problem.now in
    c.numbers_of.ensures ∙ ap (λ days. numbers_of days c.in_ok-list.list) c.days_of.ensures
    ∙ ap (numbers_of (home_of problem c.args.k).days) (c.in_ok-list.ensures.value ∙ ap (duty_list problem c.args.k) c.of_places-set.ensures)
