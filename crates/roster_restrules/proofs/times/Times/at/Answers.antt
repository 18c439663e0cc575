use Rattle.std.proofs.Common.{◌≡◌, ℕ, ◌<◌, length, Some, sym, ap, ◌∙◌, subst, arith}
use Rattle.std.specs.Prelude.{slice_get}
use Rattle.std.proofs.lemmas.Option.{slice_get_within, slice_get-get_or}
use Rattle.roster_problem.proofs.PositionLists.{slice_get-picked}
use Rattle.roster_restrules.specs.Times.{AreTimesOfEach, Timed}
use Rattle.roster_restrules.proofs.times.Times.at.Goals as goal

pub returns : goal.returns
returns c duty is =
    let timed = c.args.self.now in
    let positions = c.args.positions.now in
    let times = c.self.inside.times.items in
    let known =
    subst (λ (t : Timed). AreTimesOfEach t.days t.duties times) c.self.view_is c.self.invariant.each in
    let p : ℕ = c.from.result in
    let place : slice_get positions c.args.i ≡ Some p =
    slice_get-get_or positions c.args.i 0 c.requires.inside ∙ ap Some (sym c.from.ensures) in
    let duty_at : slice_get timed.duties p ≡ Some duty =
    sym (slice_get-picked timed.duties positions c.args.i p c.requires.within place) ∙ is in
    let long = known.covers in
    let there = slice_get_within timed.duties p duty duty_at in
    let inside : p < length times = omega arith in
    known.each p duty c.index.result.now duty_at
    (slice_get-get_or times p c.index.result.now inside ∙ ap Some (sym c.index.ensures))
