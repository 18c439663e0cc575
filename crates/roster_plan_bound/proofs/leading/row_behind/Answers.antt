use Rattle.std.proofs.Common.{sym, subst, ℤ, w64, to_z, of_z, FitsSigned, rules}
use Rattle.std.proofs.lemmas.Int.{to_z-of_z}
use Rattle.roster_lines.specs.Listing.{ArePartsLegal}
use Rattle.roster_plan_bound.specs.Behinds.{IsBase}
use Rattle.roster_plan_bound.proofs.BehindLemmas.{led_is}
use Rattle.roster_plan_bound.proofs.leading.row_behind.Goals as goal

pub returns : goal.returns
returns c =
    let problem = c.args.valued.now.problem.now in
    let k = c.args.valued.now.person in
    let timeline = c.args.valued.now.timeline.now in
    let values = c.args.valued.now.values.now in
    let parts : ArePartsLegal problem k =
    λ whole part has legal. c.part_of_legal_is_legal.ensures problem k whole part c.is_sound.ensures.ordered c.is_sound.ensures.timed has legal in
    let base : ℤ = c.base_of-base.result in
    let within = c.base_of-base.ensures.within in
    let fits : FitsSigned w64 base = search rules in
    let based =
    subst (IsBase timeline values c.args.behind.now c.args.p c.args.need c.far_from-far.result) (sym (to_z-of_z w64 base fits))
    c.base_of-base.ensures in
    led_is problem k timeline values parts c.requires.valued c.args.behind.now c.requires.behind c.args.p c.args.need
    c.far_from-far.result (to_z w64 (of_z w64 base)) c.in_ok-row.row based c.far_from-far.ensures c.in_ok-row.ensures
