use Rattle.std.proofs.Common.{◌≡◌, true, length, refl, sym, subst}
use Rattle.std.proofs.lemmas.Option.{slice_get_read}
use Rattle.roster_model.specs.Rules.{is_among}
use Rattle.roster_plan_bound.proofs.behind.pairing_at.Goals as goal

pub returns-clause-alone : goal.returns-clause-alone
returns-clause-alone c =
    subst (λ q. is_among c.args.valued.now.timeline.now.alone q ≡ true) (sym c.index.ensures)
    (c.requires.valued.is_timeline.known c.args.rank c.index.result.now c.requires.rank)

pub returns-clause-place : goal.returns-clause-place
returns-clause-place c =
    ((c.requires.valued.is_timeline.alone c.index.result.now).0
    (subst (λ q. is_among c.args.valued.now.timeline.now.alone q ≡ true) (sym c.index.ensures)
    (c.requires.valued.is_timeline.known c.args.rank c.index.result.now c.requires.rank))).0

pub returns-clause-stands : goal.returns-clause-stands
returns-clause-stands c =
    let order = c.args.valued.now.timeline.now.order.items in
    slice_get_read order (length order) c.args.rank c.index.result.now refl c.requires.rank c.index.ensures
