use Rattle.std.proofs.Common.{◌≡◌, ◌*◌, ℤ, pos, length, get_or, ◌<◌, ◌+ℤ◌, ◌*ℤ◌, ◌≤ℤ◌, w64, to_z, of_z, arith, ap, ◌∙◌, sym, subst}
use Rattle.std.proofs.lemmas.Int.{ints}
use Rattle.roster_model.specs.Problem.{weight_of}
use Rattle.roster_lines.specs.Listing.{AreFlights}
use Rattle.roster_cost.specs.Amounts.{IsWithin}
use Rattle.roster_plan_bound.specs.declared.parts.TheConstants.{MOST_BESIDE, MOST_LEAST, MOST_SHORT, MOST_TOLL, MOST_WORTH, PARTS}
use Rattle.roster_plan_bound.specs.Behinds.{AreBehind}
use Rattle.roster_plan_bound.specs.Chains.{value_at}
use Rattle.roster_plan_bound.specs.Prospects.{short_of, AreLaden, AreWorth, IsFixed, IsTable}
use Rattle.roster_plan_bound.specs.Timelines.{spare_flight}
use Rattle.roster_plan_bound.proofs.ProductLemmas.{told_in}
use Rattle.roster_plan_bound.proofs.ProspectLemmas.{worths_are}
use Rattle.roster_plan_bound.proofs.TargetLemmas.{weight_told}
use Rattle.roster_plan_bound.proofs.prospect.Prospect.table_at.Goals as goal

-- the worth, as it is kept
small : (c : goal.After-drop-laden-2) → to_z w64 (of_z w64 c.near_worth-worth.result) ≡ c.near_worth-worth.result
small c = told_in MOST_WORTH c.near_worth-worth.result c.near_worth-worth.ensures.small (omega arith)

-- and the toll
toll_small : (c : goal.After-drop-laden-2) → IsWithin MOST_TOLL c.near_toll-toll.result
toll_small c =
    let some = c.near_toll-toll.ensures.some in
    (omega (arith, ints, some), c.near_toll-toll.ensures.few)

toll_told : (c : goal.After-drop-laden-2) → to_z w64 (of_z w64 c.near_toll-toll.result) ≡ c.near_toll-toll.result
toll_told c = told_in MOST_TOLL c.near_toll-toll.result (toll_small c) (omega arith)

worths : (c : goal.After-drop-laden-2) → AreWorth c.self.inside.problem.now c.self.inside.person c.in_ok-laden.laden.items (to_z w64 (of_z w64 c.near_worth-worth.result)) c.in_ok-values.values.items
worths c =
    let inner = c.self.inside in
    let is = c.self.invariant in
    subst (λ us. AreWorth inner.problem.now inner.person us (to_z w64 (of_z w64 c.near_worth-worth.result)) c.in_ok-values.values.items) c.deref-3.ensures.value
    (worths_are inner.problem.now inner.person c.deref-3.result.now c.in_ok-values.values.items c.deref-4.result.now (to_z w64 (of_z w64 c.near_worth-worth.result))
    (ap length c.deref-3.ensures.value ∙ c.in_ok-laden.ensures.covers ∙ ap length c.deref.ensures.value ∙ is.are_units.covers)
    (subst (AreFlights inner.problem.now inner.person) (sym c.deref-4.ensures.value) is.is_timeline.flights)
    c.in_ok-values.ensures.covers c.in_ok-values.ensures.each)

loads : (c : goal.After-drop-laden-2) → AreLaden c.self.inside.problem.now c.self.inside.timeline.now c.self.inside.units.items (to_z w64 (of_z w64 c.near_toll-toll.result)) c.in_ok-laden.laden.items
loads c =
    let inner = c.self.inside in
    let is = c.self.invariant in
    let toll : ℤ = to_z w64 (of_z w64 c.near_toll-toll.result) in
    let long : length c.deref.result.now ≡ length inner.problem.now.pairings = ap length c.deref.ensures.value ∙ is.are_units.covers in
    record {
      covers = c.in_ok-laden.ensures.covers ∙ long;
      each = λ p inside.
          c.in_ok-laden.ensures.each p (subst (λ n. p < n) (sym long) inside)
          ∙ ap (λ us. value_at us p +ℤ (toll *ℤ pos (get_or c.deref-2.result.now p 0))) c.deref.ensures.value
          ∙ ap (λ ls. value_at inner.units.items p +ℤ (toll *ℤ pos (get_or ls p 0))) c.deref-2.ensures.value;
    }

-- what the table has beside its pairings, in words of the person, before the tolls
before_tolls : (c : goal.After-drop-laden-2) → IsFixed (to_z w64 (of_z w64 c.near_worth-worth.result)) (pos (PARTS * weight_of c.self.inside.problem.now)) (short_of c.self.inside.problem.now c.self.inside.person) (spare_flight c.self.inside.problem.now c.self.inside.person) (to_z w64 (of_z w64 c.fixed_at-fixed.result))
before_tolls c =
    let inner = c.self.inside in
    let is = c.self.invariant in
    let problem = inner.problem.now in
    let worth : ℤ = to_z w64 (of_z w64 c.near_worth-worth.result) in
    let weight = weight_told problem inner.weight is.is_weight c.is_sound.ensures.sound.weight in
    let short = told_in MOST_SHORT inner.short is.small (omega arith) ∙ is.is_short in
    let told = told_in MOST_LEAST c.fixed_at-fixed.result c.fixed_at-fixed.ensures.within (omega arith) in
    subst (IsFixed worth (pos (PARTS * weight_of problem)) (short_of problem inner.person) (spare_flight problem inner.person)) (sym told)
    (subst (λ n. IsFixed worth (pos (PARTS * weight_of problem)) (short_of problem inner.person) n c.fixed_at-fixed.result) is.is_spare
    (subst (λ z. IsFixed worth (pos (PARTS * weight_of problem)) z inner.spare c.fixed_at-fixed.result) short
    (subst (λ z. IsFixed worth z (to_z w64 (of_z w64 inner.short)) inner.spare c.fixed_at-fixed.result) weight c.fixed_at-fixed.ensures.value)))

fixed : (c : goal.After-drop-laden-2) → IsFixed (to_z w64 (of_z w64 c.near_worth-worth.result)) (pos (PARTS * weight_of c.self.inside.problem.now)) (short_of c.self.inside.problem.now c.self.inside.person) (spare_flight c.self.inside.problem.now c.self.inside.person) (to_z w64 (of_z w64 c.less_toll.result) +ℤ (to_z w64 (of_z w64 c.near_toll-toll.result) *ℤ pos c.self.inside.timeline.now.spare_load))
fixed c =
    let inner = c.self.inside in
    let told = told_in MOST_BESIDE c.less_toll.result c.less_toll.ensures.within (omega arith) in
    let value = c.less_toll.ensures.value in
    let whole : to_z w64 (of_z w64 c.fixed_at-fixed.result) ≡ to_z w64 (of_z w64 c.less_toll.result) +ℤ (to_z w64 (of_z w64 c.near_toll-toll.result) *ℤ pos inner.timeline.now.spare_load) =
    omega (arith, ints, told, value) in
    subst (IsFixed (to_z w64 (of_z w64 c.near_worth-worth.result)) (pos (PARTS * weight_of inner.problem.now)) (short_of inner.problem.now inner.person) (spare_flight inner.problem.now inner.person)) whole (before_tolls c)

pub returns : goal.returns
returns c =
    let inner = c.self.inside in
    let is = c.self.invariant in
    let values = c.in_ok-values.values.items in
    subst (λ v. IsTable v.problem v.person v.timeline v.units (record { worth = to_z w64 (of_z w64 c.near_worth-worth.result); toll = to_z w64 (of_z w64 c.near_toll-toll.result); fixed = to_z w64 (of_z w64 c.less_toll.result); behind = c.in_ok-behind.behind })) c.self.view_is
    (record {
      laden = c.in_ok-laden.laden.items;
      values = values;
      loads = loads c;
      worths = worths c;
      valued = record {
        is_timeline = is.is_timeline;
        few = c.is_sound.ensures.sound.pairings;
        covers = c.in_ok-values.ensures.covers ∙ ap length c.deref-3.ensures.value ∙ (loads c).covers;
        within = c.in_ok-values.ensures.within;
      };
      behind = subst (λ vs. AreBehind inner.problem.now inner.person inner.timeline.now vs c.in_ok-behind.behind) c.deref-5.ensures.value c.in_ok-behind.ensures;
      small = subst (IsWithin MOST_WORTH) (sym (small c)) c.near_worth-worth.ensures.small;
      some = subst (λ z. pos 0 ≤ℤ z) (sym (toll_told c)) c.near_toll-toll.ensures.some;
      light = subst (λ z. z ≤ℤ pos MOST_TOLL) (sym (toll_told c)) c.near_toll-toll.ensures.few;
      fixed = fixed c;
      near = subst (IsWithin MOST_BESIDE) (sym (told_in MOST_BESIDE c.less_toll.result c.less_toll.ensures.within (omega arith))) c.less_toll.ensures.within;
    })
