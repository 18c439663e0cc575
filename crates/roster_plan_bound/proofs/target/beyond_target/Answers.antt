use Rattle.std.proofs.Common.{◌≡◌, [], arith, ap, ◌∙◌, sym}
use Rattle.std.specs.Prelude.{option_map, unwrap_or}
use Rattle.std.proofs.lemmas.Int.{ints}
use Rattle.roster_model.specs.Problem.{target_of}
use Rattle.roster_plan_bound.proofs.target.beyond_target.Goals as goal

pub returns-clause-value : goal.returns-clause-value
returns-clause-value c =
    let fixed = c.fixed_flight.ensures.value in
    let most = c.fixed_flight.ensures.most [] in
    let cast = c.from.ensures in
    let small = c.from.type_inv in
    let target : target_of c.args.problem.now c.args.k ≡ c.behind-problem.inside.target =
    ap (λ o. unwrap_or (option_map (λ person. person.target) o) 0) c.person.ensures
    ∙ ap (λ person. person.target) (sym c.behind-problem.view_is) in
    omega (arith, ints, fixed, most, cast, target, small)
