use Rattle.std.proofs.Common.{◌≡◌, sym, ap, ◌∙◌, subst, inl, inr, arith, ℤ, w64, to_z, of_z, FitsSigned, rules}
use Rattle.std.specs.Prelude.{slice_get}
use Rattle.std.proofs.lemmas.Bool.{cases_eq}
use Rattle.std.proofs.lemmas.Int.{ints, to_z-of_z}
use Rattle.std.proofs.lemmas.Option.{same_Some}
use Rattle.roster_cost.specs.Amounts.{IsWithin}
use Rattle.roster_lines.specs.Listing.{ArePartsLegal}
use Rattle.roster_plan_bound.specs.declared.parts.TheConstants.{MOST_BEHIND}
use Rattle.roster_plan_bound.specs.Behinds.{IsFirstAt}
use Rattle.roster_plan_bound.proofs.BehindLemmas.{begun_is}
use Rattle.roster_plan_bound.proofs.behind.begun_of.Goals as goal

pub loop-rank-preserved : goal.loop-rank-preserved
loop-rank-preserved c =
    let timeline = c.args.valued.now.timeline.now in
    let values = c.args.valued.now.values.now in
    let behind = c.args.behind.now in
    let inv = c.loop-rank.invariant in
    let order = timeline.order.items in
    let result : ℤ = c.lesser-begun.result in
    let result_within = c.lesser-begun.ensures.within in
    let result_fits : FitsSigned w64 result = search rules in
    let told : to_z w64 (of_z w64 result) ≡ result = to_z-of_z w64 result result_fits in
    let here : ℤ = c.first_at.result in
    let here_within = c.first_at.ensures.within in
    let here_fits : FitsSigned w64 here = search rules in
    let here_told : to_z w64 (of_z w64 here) ≡ here = to_z-of_z w64 here here_fits in
    let kept = c.lesser-begun.ensures.first in
    let below = c.lesser-begun.ensures.second in
    record {
      end = omega (arith, ints, told, kept, inv.end);
      each = λ s q inside at. elim (cases_eq s c.loop-rank.rank) [
        | inl same ↦
            let same_q : q ≡ c.pairing_at-q.result = same_Some q c.pairing_at-q.result (sym at ∙ ap (λ i. slice_get order i) same ∙ c.pairing_at-q.ensures.stands) in
            let first = subst (λ i. IsFirstAt timeline values behind i here) (sym same_q) c.first_at.ensures.least in
            λ rows amount there least sum.
            let led = first rows amount there least sum in
            omega (arith, ints, told, here_told, below, led)
        | inr other ↦
            λ rows amount there least sum.
            let before = inv.each s q (omega (arith, inside, other)) at rows amount there least sum in
            omega (arith, ints, told, kept, before)
      ];
      within = subst (IsWithin MOST_BEHIND) (sym told) result_within;
    }

pub returns-clause-begun : goal.returns-clause-begun
returns-clause-begun c =
    let problem = c.args.valued.now.problem.now in
    let k = c.args.valued.now.person in
    let timeline = c.args.valued.now.timeline.now in
    let values = c.args.valued.now.values.now in
    let parts : ArePartsLegal problem k =
    λ whole part has legal. c.part_of_legal_is_legal.ensures problem k whole part c.is_sound.ensures.ordered c.is_sound.ensures.timed has legal in
    let inv = c.loop-rank.invariant in
    begun_is problem k timeline values parts c.requires.valued c.args.behind.now c.requires.behind _ inv.end
    (λ s q inside at. inv.each s q (omega (arith, inside, c.loop-rank-test.false)) at)
