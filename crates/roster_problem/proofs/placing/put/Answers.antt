use Rattle.std.proofs.Common.{◌<◌, length, arith}
use Rattle.roster_model.proofs.SetLemmas.{All-is_among}
use Rattle.roster_problem.proofs.placing.put.Goals as goal

pub bounds-places-p : goal.bounds-places-p
bounds-places-p c =
    let inside =
    All-is_among
    (λ p. p < length c.args.places.now) c.args.set.now c.in-Some.p c.requires c.in-Some.ensures.place.2 in
    omega (arith, c.loop-p.auto.places)
