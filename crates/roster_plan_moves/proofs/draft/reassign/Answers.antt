use Rattle.std.proofs.Common.{sym, subst, ◌<◌, length}
use Rattle.std.specs.Prelude.{All}
use Rattle.roster_model.specs.Places.{set_of, open_number}
use Rattle.roster_model.proofs.SetLemmas.{places_of_number}
use Rattle.roster_problem.specs.Placing.{IsPut}
use Rattle.roster_plan_moves.proofs.Reassigned.{reassigned}
use Rattle.roster_plan_moves.proofs.draft.reassign.Goals as goal

pub put-requires : goal.put-requires
put-requires c =
    subst (All (λ p. p < length c.args.places.now)) (sym c.of_places-had.ensures)
    (places_of_number c.args.k c.args.places.now)

pub returns : goal.returns
returns c =
    let problem = c.args.problem.now in
    let k = c.args.k in
    let old = c.args.places.now in
    let had : IsPut c.open_number.result (set_of k old) old c.put.new.places =
    subst
    (λ s. IsPut c.open_number.result s old c.put.new.places) c.of_places-had.ensures c.put.ensures in
    let opened : IsPut (open_number problem) (set_of k old) old c.put.new.places =
    subst (λ n. IsPut n (set_of k old) old c.put.new.places) c.open_number.ensures.value had in
    reassigned problem k c.args.set.now old c.put.new.places c.put-2.new.places
    (λ j all part within legal. c.part_of_legal_is_legal.ensures problem j all part c.is_sound.ensures.ordered c.is_sound.ensures.timed within legal)
    c.requires.roster c.requires.person c.first_from.ensures.ascending c.requires.pairings c.requires.legal opened c.put-2.ensures
