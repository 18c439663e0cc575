use Rattle.std.proofs.Common.{◌≡◌, ℕ, ◌+◌, true, List, Some, refl, sym, ap, ◌∙◌, subst, inl, inr, arith, ℤ, ◌+ℤ◌, ◌-ℤ◌, ◌&&◌, w64, to_z, of_z, FitsSigned, rules}
use Rattle.std.specs.Int.{w128}
use Rattle.std.proofs.lemmas.Bool.{false≢true}
use Rattle.std.proofs.lemmas.Int.{ints, to_z-of_z}
use Rattle.std.proofs.lemmas.Option.{slice_get-get_or}
use Rattle.roster_model.specs.Costs.{cost_of}
use Rattle.roster_model.specs.Plans.{all_open}
use Rattle.roster_model.specs.Settled.{Anywhere, IsHeld, IsNotAfter}
use Rattle.roster_bases.specs.Bases.{only}
use Rattle.roster_bases.specs.United.{unite}
use Rattle.roster_plan.specs.declared.parts.BasePlan.{BasePlan}
use Rattle.roster_plan.specs.Parts.{AreTogether, IsPart}
use Rattle.roster_plan.proofs.PartLemmas.{all_best, all_bounded, next_together, nothing_together}
use Rattle.roster_plan.proofs.parts.assembled.Goals as goal

pub loop-base-init : goal.loop-base-init
loop-base-init c =
    let problem = c.args.problem.now in
    let cost : ℤ = c.roster_cost-idle.result in
    let fits : FitsSigned w64 cost = search rules in
    let idle : c.from-bound.result ≡ cost = c.from-bound.ensures ∙ to_z-of_z w64 cost fits in
    let wide : FitsSigned w128 c.from-bound.result = search rules in
    let told : to_z w128 (of_z w128 c.from-bound.result) ≡ cost =
    to_z-of_z w128 c.from-bound.result wide ∙ idle in
    let is : cost ≡ cost_of problem c.in_ok-places.places.items =
    c.roster_cost-idle.ensures ∙ ap (cost_of problem) c.deref.ensures.value in
    record {
      together =
          nothing_together problem c.in_ok-places.places.items
          (to_z w128 (of_z w128 c.from-bound.result)) c.in_ok-places.ensures (told ∙ is);
      within = (omega (arith, ints, told, c.roster_cost-idle.type_inv), omega (arith, ints, told, c.roster_cost-idle.type_inv));
      best = λ all. refl;
    }

-- the part at the base
here : (c : goal.After-deref-in-loop-base)
    → IsPart c.args.problem.now c.loop-base.base c.index-parts-base.result
here c = c.requires.each c.loop-base.base c.index-parts-base.result
    (slice_get-get_or c.args.parts.now c.loop-base.base c.index-parts-base.result c.loop-base-test.true ∙ ap (λ (part : BasePlan). Some part) (sym c.index-parts-base.is))

pub united-requires-clause-part : goal.united-requires-clause-part
united-requires-clause-part c = (here c).held.legal.covers

pub loop-base-preserved : goal.loop-base-preserved
loop-base-preserved c =
    let problem = c.args.problem.now in
    let base = c.loop-base.base in
    let part = c.index-parts-base.result in
    let old : List ℕ = c.loop-base.places.items in
    let bound : ℤ = to_z w128 c.loop-base.bound-bits in
    let is : IsPart problem base part = c.requires.each base part
    (slice_get-get_or c.args.parts.now base part c.loop-base-test.true ∙ ap (λ (p : BasePlan). Some p) (sym c.index-parts-base.is)) in
    let cost : ℤ = c.roster_cost-idle.result in
    let cost_fits : FitsSigned w64 cost = search rules in
    let cost_told : to_z w64 (of_z w64 cost) ≡ cost = to_z-of_z w64 cost cost_fits in
    let idle : cost ≡ cost_of problem (all_open problem) =
    c.roster_cost-idle.ensures ∙ ap (cost_of problem) (c.deref.ensures.value ∙ c.in_ok-places.ensures) in
    let own_fits : FitsSigned w64 part.bound = search rules in
    let own_told : to_z w64 (of_z w64 part.bound) ≡ part.bound = to_z-of_z w64 part.bound own_fits in
    let more_fits : FitsSigned w128 c.above.result = search rules in
    let more_told : to_z w128 (of_z w128 c.above.result) ≡ c.above.result =
    to_z-of_z w128 c.above.result more_fits in
    let sum : ℤ = c.with_more-bound.result in
    let sum_fits : FitsSigned w128 sum = search rules in
    let sum_told : to_z w128 (of_z w128 sum) ≡ sum = to_z-of_z w128 sum sum_fits in
    let value : to_z w128 (of_z w128 sum) ≡ bound +ℤ (part.bound -ℤ cost) = omega (arith, ints, sum_told, c.with_more-bound.ensures.value, more_told, c.above.ensures.value, own_told, cost_told) in
    let united : c.in_ok-places-2.places.items ≡ unite problem (only base) part.roster.places old =
    c.in_ok-places-2.ensures
    ∙ ap (unite problem (only base) part.roster.places) c.deref-in-loop-base.ensures.value in
    let next = next_together problem base part old bound cost c.loop-base.is_best is c.loop-base.invariant.together idle in
    let low = c.with_more-bound.ensures.within.0 in
    let high = c.with_more-bound.ensures.within.1 in
    record {
      together =
          subst
          (λ b. AreTogether problem (base + 1) c.in_ok-places-2.places.items (to_z w128 (of_z w128 sum)) b)
          (sym c.are_both-is_best.ensures)
          (subst (λ z. AreTogether problem (base + 1) c.in_ok-places-2.places.items z (c.loop-base.is_best && part.is_best)) (sym value)
          (subst (λ places. AreTogether problem (base + 1) places (bound +ℤ (part.bound -ℤ cost)) (c.loop-base.is_best && part.is_best)) (sym united) next));
      within = (omega (arith, ints, low, sum_told), omega (arith, ints, high, sum_told));
      best = λ all.
          let this : part.is_best ≡ true =
          subst (λ (p : BasePlan). p.is_best ≡ true) (sym c.index-parts-base.is)
          (all base part c.loop-base-test.true) in
          c.are_both-is_best.ensures ∙ ap (λ b. b && part.is_best) (c.loop-base.invariant.best all) ∙ this;
    }

pub best_plan-requires-clause-held : goal.best_plan-requires-clause-held
best_plan-requires-clause-held c =
    subst (IsHeld c.args.problem.now) (sym c.costed-roster.ensures)
    (record { legal = c.loop-base.invariant.together.legal; cost = refl })

pub best_plan-requires-clause-best : goal.best_plan-requires-clause-best
best_plan-requires-clause-best c =
    let problem = c.args.problem.now in
    subst (IsNotAfter problem Anywhere) (sym c.costed-roster.ensures)
    (all_best problem c.loop-base.base c.loop-base.places.items (to_z w128 c.loop-base.bound-bits) c.loop-base.is_best c.is_sound.ensures.sound
    (omega (arith, c.loop-base-test.false, c.loop-base.auto.base-end, c.requires.covers)) c.loop-base.invariant.together c.if-is_best.true)

pub so_far-requires-clause-held : goal.so_far-requires-clause-held
so_far-requires-clause-held c =
    subst (IsHeld c.args.problem.now) (sym c.costed-roster.ensures)
    (record { legal = c.loop-base.invariant.together.legal; cost = refl })

pub so_far-requires-clause-bound : goal.so_far-requires-clause-bound
so_far-requires-clause-bound c places legal =
    let problem = c.args.problem.now in
    let word : ℤ = c.word_of.result in
    let fits : FitsSigned w64 word = search rules in
    let told : to_z w64 (of_z w64 word) ≡ word = to_z-of_z w64 word fits in
    let bound =
    all_bounded problem c.loop-base.base c.loop-base.places.items
    (to_z w128 c.loop-base.bound-bits) c.loop-base.is_best c.is_sound.ensures.sound
    (omega (arith, c.loop-base-test.false, c.loop-base.auto.base-end, c.requires.covers)) c.loop-base.invariant.together places legal in
    let low = c.costs_fit.ensures.low places legal in
    elim c.word_of.ensures.low [
      | inl below ↦ omega (arith, ints, told, bound, below)
      | inr least ↦ omega (arith, ints, told, low, least)
    ]

pub returns-clause-best : goal.returns-clause-best
returns-clause-best c all = absurd (false≢true (sym c.if-is_best.false ∙ c.loop-base.invariant.best all))
