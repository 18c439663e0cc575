use Rattle.std.proofs.Common.{◌≡◌, ℕ, ◌+◌, ◌<◌, ◌≤◌, ◌*◌, ◌-◌, length, get_or, Some, sym, subst, ap, ◌∙◌, arith, rules, w64, List, ℤ, pos, ◌+ℤ◌, FitsSigned, to_z, of_z}
use Rattle.std.proofs.lemmas.Int.{ints, to_z-of_z}
use Rattle.std.proofs.lemmas.Option.{slice_get-get_or}
use Rattle.roster_model.specs.declared.limits.TheConstants.{MOST_PAIRINGS}
use Rattle.roster_cost.specs.Amounts.{IsWithin}
use Rattle.roster_plan_bound.specs.declared.parts.TheConstants.{MOST_CHAIN_VALUE, MOST_FLIGHT}
use Rattle.roster_plan_bound.specs.Chains.{value_at}
use Rattle.roster_plan_bound.specs.Seeks.{IsClassWith, IsNeedWith}
use Rattle.roster_plan_bound.proofs.SeekLemmas.{index-any}
use Rattle.roster_plan_bound.proofs.seek.end_with.Goals as goal

-- the sum that the code takes
abbrev summed : ℤ → ℤ → ℤ
summed value unit = to_z w64 (of_z w64 value) +ℤ to_z w64 (of_z w64 unit)

told : (room : ℕ) (value unit : ℤ) → IsWithin ((MOST_PAIRINGS - room) * MOST_CHAIN_VALUE) value
    → IsWithin MOST_CHAIN_VALUE unit
    → FitsSigned w64 (summed value unit) × (summed value unit ≡ value +ℤ unit)
told room value unit within small =
    let low = within.0 in
    let high = within.1 in
    let value_fits : FitsSigned w64 value = search rules in
    let value_told : to_z w64 (of_z w64 value) ≡ value = to_z-of_z w64 value value_fits in
    let low_unit = small.0 in
    let high_unit = small.1 in
    let unit_fits : FitsSigned w64 unit = search rules in
    let unit_told : to_z w64 (of_z w64 unit) ≡ unit = to_z-of_z w64 unit unit_fits in
    let fits : FitsSigned w64 (summed value unit) = search rules in
    (fits, omega (arith, ints, value_told, unit_told))

pub overflow_add-result : goal.overflow_add-result
overflow_add-result c =
    let units = c.args.prospect.now.units in
    let inside : c.args.q < length units =
    subst (λ n. c.args.q < n) (sym c.units.ensures.are.covers) (c.requires.spot.may c.args.q c.requires.may) in
    subst (λ us. FitsSigned w64 (summed c.args.spot.now.end.value (value_at us c.args.q)))
    (sym c.units.ensures.value)
    (told c.args.spot.now.room c.args.spot.now.end.value (value_at units c.args.q) c.requires.spot.value (c.units.ensures.are.within c.args.q (pos 0) inside)).0

pub returns : goal.returns
returns c =
    let o = c.args.prospect.now in
    let q : ℕ = c.args.q in
    let spot = c.args.spot.now in
    let timed = c.timeline-timeline.ensures.is in
    let there : q < length o.problem.pairings = c.requires.spot.may q c.requires.may in
    let inside : q < length o.units = subst (λ n. q < n) (sym c.units.ensures.are.covers) there in
    let small : IsWithin MOST_CHAIN_VALUE (value_at o.units q) = c.units.ensures.are.within q (pos 0) inside in
    let sum = told spot.room spot.end.value (value_at o.units q) c.requires.spot.value small in
    let at : ℕ = c.index.result.now in
    let flight_inside : q < length o.timeline.flights.items = subst (λ n. q < n) (sym timed.flights.covers) there in
    let minutes : at ≡ get_or o.timeline.flights.items q at =
    c.index.ensures ∙ ap (λ t. get_or t.flights.items q at) c.timeline-timeline.ensures.value in
    let flown = timed.flights.each q at (slice_get-get_or o.timeline.flights.items q at flight_inside ∙ ap Some (sym minutes)) in
    let load_inside : q < length o.timeline.loads.items = subst (λ n. q < n) (sym timed.loads.covers) there in
    let taken : c.index-2.result.now ≡ get_or o.timeline.loads.items q 0 =
    index-any o.timeline.loads.items q c.index-2.result.now 0 (c.index-2.ensures ∙ ap (λ t. get_or t.loads.items q c.index-2.result.now) c.timeline-timeline.ensures.value) load_inside in
    record {
      class =
          subst (λ t. IsClassWith t spot q c.class_with.result) c.timeline-timeline.ensures.value
          c.class_with.ensures;
      value =
          ap (λ (us : List ℤ). to_z w64 (of_z w64 (summed spot.end.value (value_at us q)))) c.units.ensures.value
          ∙ to_z-of_z w64 (summed spot.end.value (value_at o.units q)) sum.0 ∙ sum.1;
      small = small;
      flight = ap (λ n. spot.end.flight + n) flown;
      few = subst (λ n. n ≤ MOST_FLIGHT) (sym minutes ∙ flown) (timed.few q at flight_inside);
      load = ap (λ n. spot.end.load + n) taken;
      light = timed.loads.small q 0 load_inside;
      need =
          subst (λ t. IsNeedWith t spot q c.need_with.result) c.timeline-timeline.ensures.value
          c.need_with.ensures;
    }
