use Rattle.std.proofs.Common.{◌≡◌, List, [], map, ap, ◌∙◌, sym}
use Rattle.std.specs.Prelude.{option_map, Option, unwrap_or}
use Rattle.roster_model.specs.Calendar.{Days}
use Rattle.roster_model.specs.Problem.{eleven_of, home_of, year_of}
use Rattle.roster_model.specs.Rules.{duty_list}
use Rattle.roster_model.specs.records.Crew.{Person}
use Rattle.roster_model.specs.records.Duty.{Duty}
use Rattle.roster_cumulative.specs.Judged.{judged_sums, room_of}
use Rattle.roster_plan_bound.proofs.loads.rooms_of_person.Goals as goal

pub returns : goal.returns
returns c =
    let problem = c.args.problem.now in
    let k = c.args.k in
    let year : c.person.inside.year ≡ year_of problem k =
    ap (λ (p : Person). p.year) c.person.view_is
    ∙ sym (ap (λ (o : Option Person). unwrap_or (option_map (λ p. p.year) o) 0) c.person-person.ensures) in
    let eleven : c.person.inside.eleven ≡ eleven_of problem k =
    ap (λ (p : Person). p.eleven) c.person.view_is
    ∙ sym (ap (λ (o : Option Person). unwrap_or (option_map (λ p. p.eleven) o) 0) c.person-person.ensures) in
    c.in_ok-rooms.ensures
    ∙ ap (λ (d : Days). map (room_of d c.in_ok-fixed.fixed c.person.inside.year c.person.inside.eleven) (judged_sums d)) c.days_of.ensures
    ∙ ap (λ (l : List Duty). map (room_of (home_of problem k).days l c.person.inside.year c.person.inside.eleven) (judged_sums (home_of problem k).days)) c.in_ok-fixed.ensures.value
    ∙ ap (λ s. map (room_of (home_of problem k).days (duty_list problem k s) c.person.inside.year c.person.inside.eleven) (judged_sums (home_of problem k).days)) c.empty.ensures
    ∙ ap (λ y. map (room_of (home_of problem k).days (duty_list problem k []) y c.person.inside.eleven) (judged_sums (home_of problem k).days)) year
    ∙ ap (λ e. map (room_of (home_of problem k).days (duty_list problem k []) (year_of problem k) e) (judged_sums (home_of problem k).days)) eleven
