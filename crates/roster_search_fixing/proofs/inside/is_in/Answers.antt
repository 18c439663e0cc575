use Rattle.std.proofs.Common.{◌≡◌, length, true, ap, arith, rules}
use Rattle.roster_search_fixing.proofs.Decisions.{chosen_inside, inside_by_parts}
use Rattle.roster_search_fixing.proofs.inside.is_in.Goals as goal

pub returns : goal.returns
returns c =
    let covers : length c.args.places.now ≡ length c.args.problem.now.pairings =
    omega (arith, ap length c.pairings.ensures.value, c.if-places-pairings.false) in
    let numbers : c.are_numbers.result ≡ true = search rules in
    let states : c.are_states_kept.result ≡ true = search rules in
    let count : c.is_count_kept.result ≡ true = search rules in (
      λ yes. inside_by_parts c.args.problem.now c.args.region.now c.args.places.now c.requires covers (c.are_numbers.ensures.0 numbers) (c.are_states_kept.ensures.0 states) (c.is_count_kept.ensures.0 count) (c.in_ok-chosen.ensures.0 yes),
      λ there. c.in_ok-chosen.ensures.1 (chosen_inside c.args.problem.now c.args.region.now c.args.places.now c.requires there),
    )
