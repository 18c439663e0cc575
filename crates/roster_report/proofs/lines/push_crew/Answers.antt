use Rattle.std.proofs.Common.{ap, ◌∙◌, List, ℕ, ◌++◌, map}
use Rattle.std.specs.Fmt.{decimal}
use Rattle.std.proofs.lemmas.Result.{on_ok_weaker}
use Rattle.std.proofs.lemmas.Option.{slice_get_within}
use Rattle.roster_model.specs.records.Crew.{Person}
use Rattle.roster_model.specs.Problem.{home_of}
use Rattle.roster_model.specs.Places.{set_of}
use Rattle.roster_model.specs.Rules.{duty_list}
use Rattle.roster_model.specs.Texts.{crew_line, numbers_of, names_of}
use Rattle.roster_report.specs.Words.{spaced, further}
use Rattle.roster_report.proofs.LineOf.{line-in_parts}
use Rattle.roster_report.proofs.lines.push_crew.Goals as goal

pub numbers_of_person-requires-clause-person : goal.numbers_of_person-requires-clause-person
numbers_of_person-requires-clause-person c =
    slice_get_within c.args.problem.now.persons c.args.k c.args.person.now c.requires.person

pub returns : goal.returns
unfolding crew_line
returns c =
    let problem = c.args.problem.now in
    let set = set_of c.args.k c.args.places.now in
    let words = map decimal (numbers_of (home_of problem c.args.k).days (duty_list problem c.args.k set)) in
    let name = c.as_bytes.ensures.value ∙ ap (λ (person : Person). person.id) c.person.view_is in
    let word =
    c.in_ok-push_word.ensures
    ∙ ap (λ (t : List ℕ). c.extend_from_slice.new.self.items ++ spaced t) name in
    let written = c.in_ok-push_numbers.ensures ∙ ap (λ (ns : List ℕ). c.push_word.new.out.items ++ further (map decimal ns)) c.in_ok-numbers.ensures in
    on_ok_weaker c.end_line.result (λ e. line-in_parts _ _ _ _ _ _ _ _ words (names_of problem set) c.in_ok-extend_from_slice.ensures.items word written c.in_ok-push_names.ensures e) c.end_line.ensures
