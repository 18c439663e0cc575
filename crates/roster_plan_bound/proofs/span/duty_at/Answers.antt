use Rattle.std.proofs.Common.{◌≡◌, ℕ, ◌<◌, length, Some, refl, sym, ap, ◌∙◌, subst}
use Rattle.std.specs.Prelude.{slice_get}
use Rattle.std.proofs.lemmas.Option.{slice_get-get_or, slice_get_read}
use Rattle.roster_problem.proofs.PositionLists.{slice_get-picked}
use Rattle.roster_plan_bound.proofs.span.duty_at.Goals as goal

pub returns : goal.returns
returns c =
    let duties = c.args.duties.now in
    let positions = c.args.positions.now in
    let p : ℕ = c.from.result in
    let place : slice_get positions c.args.i ≡ Some p =
    slice_get-get_or positions c.args.i 0 c.requires.inside ∙ ap Some (sym c.from.ensures) in
    let there : p < length duties =
    subst (λ q. q < length duties) (sym c.from.ensures) (c.requires.within c.args.i 0 c.requires.inside) in
    slice_get-picked duties positions c.args.i p c.requires.within place
    ∙ slice_get_read duties (length duties) p c.index-duties-from.result refl there c.index-duties-from.is
