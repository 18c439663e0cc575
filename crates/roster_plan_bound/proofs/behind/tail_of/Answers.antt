use Rattle.std.proofs.Common.{◌≡◌, ◌+◌, length, Some, refl, sym, subst, arith, ℤ, ◌+ℤ◌, ◌≤ℤ◌, w64, to_z, of_z, FitsSigned, rules}
use Rattle.std.specs.Prelude.{slice_get}
use Rattle.std.proofs.lemmas.Int.{ints, to_z-of_z}
use Rattle.std.proofs.lemmas.Option.{slice_get_read}
use Rattle.roster_cost.specs.Amounts.{IsWithin}
use Rattle.roster_lines.specs.Listing.{ArePartsLegal}
use Rattle.roster_plan_bound.specs.declared.parts.TheConstants.{MOST_BEHIND}
use Rattle.roster_plan_bound.specs.Behinds.{lowest, row_at, IsTailBehind}
use Rattle.roster_plan_bound.specs.Chains.{value_at}
use Rattle.roster_plan_bound.specs.Timelines.{class_of}
use Rattle.roster_plan_bound.proofs.BehindLemmas.{tail_is}
use Rattle.roster_plan_bound.proofs.behind.tail_of.Goals as goal

pub lesser-requires-clause-amount : goal.lesser-requires-clause-amount
lesser-requires-clause-amount c =
    let tails = c.args.behind.now.tails.items in
    let found : ℤ = c.index.result.now in
    let here : slice_get tails (c.args.rank + 1) ≡ Some found =
    slice_get_read tails (length tails) (c.args.rank + 1) found refl
    (omega (arith, c.requires.behind.longer, c.requires.rank)) c.index.ensures in
    let within = (c.requires.behind.tails (c.args.rank + 1) found here).within in
    let fits : FitsSigned w64 found = search rules in
    subst (IsWithin MOST_BEHIND) (sym (to_z-of_z w64 found fits)) within

pub returns : goal.returns
returns c =
    let problem = c.args.valued.now.problem.now in
    let k = c.args.valued.now.person in
    let timeline = c.args.valued.now.timeline.now in
    let values = c.args.valued.now.values.now in
    let parts : ArePartsLegal problem k =
    λ whole part has legal. c.part_of_legal_is_legal.ensures problem k whole part c.is_sound.ensures.ordered c.is_sound.ensures.timed has legal in
    let tails = c.args.behind.now.tails.items in
    let found : ℤ = c.index.result.now in
    let here : slice_get tails (c.args.rank + 1) ≡ Some found =
    slice_get_read tails (length tails) (c.args.rank + 1) found refl
    (omega (arith, c.requires.behind.longer, c.requires.rank)) c.index.ensures in
    let is = c.requires.behind.tails (c.args.rank + 1) found here in
    let found_within = is.within in
    let found_fits : FitsSigned w64 found = search rules in
    let found_told : to_z w64 (of_z w64 found) ≡ found = to_z-of_z w64 found found_fits in
    let led : ℤ = c.led.result in
    let led_within = c.led.ensures.within in
    let led_fits : FitsSigned w64 led = search rules in
    let led_told : to_z w64 (of_z w64 led) ≡ led = to_z-of_z w64 led led_fits in
    let result : ℤ = c.lesser.result in
    let result_within = c.lesser.ensures.within in
    let result_fits : FitsSigned w64 result = search rules in
    let result_told : to_z w64 (of_z w64 result) ≡ result = to_z-of_z w64 result result_fits in
    let below_found : result ≤ℤ found = omega (arith, ints, found_told, c.lesser.ensures.first) in
    let below_led : result ≤ℤ led = omega (arith, ints, led_told, c.lesser.ensures.second) in
    let told : (amount : ℤ) → lowest ≤ℤ amount
    → (value_at values c.args.p +ℤ row_at c.args.row.now (class_of timeline c.args.p)) ≤ℤ amount → led ≤ℤ amount =
    λ amount least sum. c.led.ensures.least amount least sum in
    subst (IsTailBehind problem k timeline values c.args.rank) (sym result_told)
    (tail_is problem k timeline values parts c.requires.valued c.args.behind.now c.requires.behind c.args.rank c.args.p
    result led found c.args.row.now c.requires.stands c.requires.row is told below_led below_found result_within)
