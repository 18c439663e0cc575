use Rattle.std.proofs.Common.{pos, neg_ℤ, w64, FitsSigned, rules, inl, inr, arith, sym, subst}
use Rattle.std.proofs.lemmas.Int.{ints, to_z-of_z}
use Rattle.roster_cost.specs.Amounts.{IsWithin}
use Rattle.roster_plan_bound.specs.declared.parts.TheConstants.{MOST_LEAST, MOST_SHORT}
use Rattle.roster_plan_bound.specs.Prospects.{short_of, IsLeastPath, IsTable}
use Rattle.roster_plan_bound.proofs.ProductLemmas.{told_in}
use Rattle.roster_plan_bound.proofs.ProspectLemmas.{begun_below, gain_low}
use Rattle.roster_plan_bound.proofs.prospect.Prospect.least.Goals as goal

pub loop-i-init : goal.loop-i-init
loop-i-init c =
    let inner = c.self.inside in
    let is = c.self.invariant in
    let sound = c.is_sound.ensures.sound in
    let away : IsWithin MOST_SHORT (short_of inner.problem.now inner.person) =
    subst (IsWithin MOST_SHORT) is.is_short is.small in
    record {
      below = subst (λ v. IsLeastPath v.problem v.person v.timeline v.units (neg_ℤ (pos MOST_LEAST))) c.self.view_is
          (gain_low inner.problem.now inner.prices.now inner.person inner.timeline.now inner.units.items is.are_units sound.pairings sound.weight away);
      within = (omega (arith, ints), omega (arith, ints));
    }

pub begun-requires-clause-begun : goal.begun-requires-clause-begun
begun-requires-clause-begun c =
    let inner = c.self.inside in
    let own = IsTable inner.problem.now inner.person inner.timeline.now inner.units.items in
    let table : own c.index.result.now =
    subst own (sym c.index.ensures) (c.self.invariant.are_tables c.loop-i.i c.index.result.now (omega (arith, c.loop-i-test.true, c.len-i-end.ensures, inner.tables.ok.0))) in
    table.behind.within

pub loop-i-preserved : goal.loop-i-preserved
loop-i-preserved c =
    let inner = c.self.inside in
    let own = IsTable inner.problem.now inner.person inner.timeline.now inner.units.items in
    let table : own c.index.result.now =
    subst own (sym c.index.ensures) (c.self.invariant.are_tables c.loop-i.i c.index.result.now (omega (arith, c.loop-i-test.true, c.len-i-end.ensures, inner.tables.ok.0))) in
    let begun = subst (λ v. IsLeastPath v.problem v.person v.timeline v.units c.begun.result) c.self.view_is
    (begun_below inner.problem.now inner.person inner.timeline.now inner.units.items c.index.result.now c.begun.result table c.begun.ensures) in
    let told = told_in MOST_LEAST c.raised-least.result c.raised-least.ensures.within (omega arith) in
    let fits : FitsSigned w64 c.begun.result = search rules in
    let begun_told = to_z-of_z w64 c.begun.result fits in
    let one = c.raised-least.ensures.one in
    record {
      below = λ path of.
          let here = begun path of in
          let before = c.loop-i.invariant.below path of in
          elim one [
            | inl same ↦ omega (arith, ints, told, same, before, c.loop-i.least-is)
            | inr less ↦ omega (arith, ints, told, less, begun_told, here)
          ];
      within = subst (IsWithin MOST_LEAST) (sym told) c.raised-least.ensures.within;
    }
