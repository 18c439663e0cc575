use Rattle.std.proofs.Common.{◌<◌, length, pos, neg_ℤ, w64, to_z, of_z, FitsSigned, rules, inl, inr, arith, ap, ◌∙◌, sym, subst, ◌≡◌, ◌+ℤ◌, ◌*ℤ◌, Some}
use Rattle.std.specs.Prelude.{slice_get}
use Rattle.std.proofs.lemmas.Int.{ints, to_z-of_z}
use Rattle.roster_cost.specs.Amounts.{IsWithin}
use Rattle.roster_plan_bound.specs.declared.parts.TheConstants.{MOST_LADEN, MOST_LEAST, MOST_SHORT, MOST_SUM, MOST_TOLL}
use Rattle.roster_plan_bound.specs.declared.rows_behind.OwedRows.{OwedRows}
use Rattle.roster_plan_bound.specs.Behinds.{row_at, row_for}
use Rattle.roster_plan_bound.specs.Prospects.{short_of, IsAhead, IsLeastPath, IsTable}
use Rattle.roster_plan_bound.proofs.ProductLemmas.{told_in}
use Rattle.roster_plan_bound.proofs.ProspectLemmas.{ahead_below, gain_low, none_beyond, none_heavier, rows_within}
use Rattle.roster_plan_bound.specs.Timelines.{spare_flight}
use Rattle.roster_plan_bound.proofs.prospect.Prospect.ahead.Goals as goal

pub returns-then-flight-self : goal.returns-then-flight-self
returns-then-flight-self c before rest of begun class owed brought flown taken =
    let inner = c.self.inside in
    let over : inner.spare < c.args.flight = omega (arith, c.if-flight-self.true) in
    let more : spare_flight inner.problem.now inner.person < c.args.flight =
    subst (λ n. n < c.args.flight) c.self.invariant.is_spare over in
    let seen = subst (λ v. spare_flight v.problem v.person < c.args.flight) c.self.view_is more in
    absurd (none_beyond c.args.self.now.problem c.args.self.now.person c.args.self.now.timeline c.args.flight c.args.q before rest of flown seen)

pub returns-then-load-self : goal.returns-then-load-self
returns-then-load-self c before rest of begun class owed brought flown taken =
    let inner = c.self.inside in
    let over : inner.timeline.now.spare_load < c.args.load = omega (arith, c.if-load-self.true) in
    let seen = subst (λ v. v.timeline.spare_load < c.args.load) c.self.view_is over in
    absurd (none_heavier c.args.self.now.problem c.args.self.now.person c.args.self.now.timeline c.args.load c.args.q before rest of taken seen)

pub loop-i-init : goal.loop-i-init
loop-i-init c =
    let inner = c.self.inside in
    let is = c.self.invariant in
    let sound = c.is_sound.ensures.sound in
    let away : IsWithin MOST_SHORT (short_of inner.problem.now inner.person) =
    subst (IsWithin MOST_SHORT) is.is_short is.small in
    let low = subst (λ v. IsLeastPath v.problem v.person v.timeline v.units (neg_ℤ (pos MOST_LEAST))) c.self.view_is
    (gain_low inner.problem.now inner.prices.now inner.person inner.timeline.now inner.units.items is.are_units sound.pairings sound.weight away) in
    λ before rest of begun class owed brought flown taken. low _ of

pub laden-value-requires-clause-toll : goal.laden-value-requires-clause-toll
laden-value-requires-clause-toll c =
    let inner = c.self.inside in
    let own = IsTable inner.problem.now inner.person inner.timeline.now inner.units.items in
    let table : own c.index-table.result.now =
    subst own (sym c.index-table.ensures) (c.self.invariant.are_tables c.loop-i.i c.index-table.result.now (omega (arith, c.loop-i-test.true, c.len-i-end.ensures, inner.tables.ok.0))) in
    let some = table.some in
    let within : IsWithin MOST_TOLL c.index-table.result.now.toll = (omega (arith, ints, some), table.light) in
    subst (IsWithin MOST_TOLL) (sym (told_in MOST_TOLL c.index-table.result.now.toll within (omega arith))) within

pub ahead-requires-clause-pairing : goal.ahead-requires-clause-pairing
ahead-requires-clause-pairing c =
    let inner = c.self.inside in
    let own = IsTable inner.problem.now inner.person inner.timeline.now inner.units.items in
    let table : own c.index-table.result.now =
    subst own (sym c.index-table.ensures) (c.self.invariant.are_tables c.loop-i.i c.index-table.result.now (omega (arith, c.loop-i-test.true, c.len-i-end.ensures, inner.tables.ok.0))) in
    let place : c.args.q < length inner.problem.now.pairings =
    subst (λ v. c.args.q < length v.problem.pairings) (sym c.self.view_is) c.requires.pairing in
    omega (arith, place, table.behind.covers)

pub ahead-requires-clause-worth : goal.ahead-requires-clause-worth
ahead-requires-clause-worth c =
    let inner = c.self.inside in
    let own = IsTable inner.problem.now inner.person inner.timeline.now inner.units.items in
    let table : own c.index-table.result.now =
    subst own (sym c.index-table.ensures) (c.self.invariant.are_tables c.loop-i.i c.index-table.result.now (omega (arith, c.loop-i-test.true, c.len-i-end.ensures, inner.tables.ok.0))) in
    table.small

pub ahead-requires-clause-fixed : goal.ahead-requires-clause-fixed
ahead-requires-clause-fixed c =
    let inner = c.self.inside in
    let own = IsTable inner.problem.now inner.person inner.timeline.now inner.units.items in
    let table : own c.index-table.result.now =
    subst own (sym c.index-table.ensures) (c.self.invariant.are_tables c.loop-i.i c.index-table.result.now (omega (arith, c.loop-i-test.true, c.len-i-end.ensures, inner.tables.ok.0))) in
    table.near

pub ahead-requires-clause-rows : goal.ahead-requires-clause-rows
ahead-requires-clause-rows c =
    let inner = c.self.inside in
    let own = IsTable inner.problem.now inner.person inner.timeline.now inner.units.items in
    let table : own c.index-table.result.now =
    subst own (sym c.index-table.ensures) (c.self.invariant.are_tables c.loop-i.i c.index-table.result.now (omega (arith, c.loop-i-test.true, c.len-i-end.ensures, inner.tables.ok.0))) in
    rows_within inner.problem.now inner.person inner.timeline.now inner.units.items c.index-table.result.now table c.args.due.need

pub loop-i-preserved : goal.loop-i-preserved
loop-i-preserved c =
    let inner = c.self.inside in
    let own = IsTable inner.problem.now inner.person inner.timeline.now inner.units.items in
    let table : own c.index-table.result.now =
    subst own (sym c.index-table.ensures) (c.self.invariant.are_tables c.loop-i.i c.index-table.result.now (omega (arith, c.loop-i-test.true, c.len-i-end.ensures, inner.tables.ok.0))) in
    let place : c.args.q < length inner.problem.now.pairings =
    subst (λ v. c.args.q < length v.problem.pairings) (sym c.self.view_is) c.requires.pairing in
    let laden = told_in MOST_LADEN c.laden-value.result c.laden-value.ensures.within (omega arith) ∙ c.laden-value.ensures.value
    ∙ ap (λ z. to_z w64 (of_z w64 c.args.value) +ℤ (z *ℤ pos c.args.load)) (told_in MOST_TOLL c.index-table.result.now.toll (let some = table.some in (omega (arith, ints, some), table.light)) (omega arith)) in
    let tells : (rows : OwedRows) → slice_get c.index-table.result.now.behind.rows.items c.args.q ≡ Some rows → c.ahead.result ≡ (to_z w64 (of_z w64 c.args.value) +ℤ (c.index-table.result.now.toll *ℤ pos c.args.load)) +ℤ (c.index-table.result.now.worth *ℤ pos c.args.flight) +ℤ c.index-table.result.now.fixed +ℤ row_at (row_for rows c.args.due.need) c.args.due.class = λ rows at.
    c.ahead.ensures.value rows at ∙ ap (λ z. z +ℤ (c.index-table.result.now.worth *ℤ pos c.args.flight) +ℤ c.index-table.result.now.fixed +ℤ row_at (row_for rows c.args.due.need) c.args.due.class) laden in
    let ahead = subst (λ v. IsAhead v.problem v.person v.timeline v.units (to_z w64 (of_z w64 c.args.value)) c.args.flight c.args.load c.args.q c.args.due.class c.args.due.need c.ahead.result) c.self.view_is
    (ahead_below inner.problem.now inner.person inner.timeline.now inner.units.items c.index-table.result.now (to_z w64 (of_z w64 c.args.value)) c.args.flight c.args.load c.args.q c.args.due.class c.args.due.need c.ahead.result table place tells) in
    let fits : FitsSigned w64 c.greater-least.result = search rules in
    let told = to_z-of_z w64 c.greater-least.result fits in
    let ahead_told = told_in MOST_SUM c.ahead.result c.ahead.ensures.within (omega arith) in
    let one = c.greater-least.ensures in
    λ before rest of begun class owed brought flown taken.
    let here = ahead before rest of begun class owed brought flown taken in
    let known = c.loop-i.invariant before rest of begun class owed brought flown taken in
    elim one [
      | inl same ↦ omega (arith, ints, told, same, known, c.loop-i.least-is)
      | inr more ↦ omega (arith, ints, told, more, ahead_told, here)
    ]

pub returns-after-loop-i : goal.returns-after-loop-i
returns-after-loop-i c =
    subst (λ v. IsAhead c.args.self.now.problem c.args.self.now.person c.args.self.now.timeline c.args.self.now.units v c.args.flight c.args.load c.args.q c.args.due.class c.args.due.need (to_z w64 c.loop-i.least-bits)) (to_z-of_z w64 c.args.value c.ranges.value)
    (λ before rest of begun class owed brought flown taken. let known = c.loop-i.invariant before rest of begun class owed brought flown taken in omega (arith, ints, known, c.loop-i.least-is))

pub returns-then-least-enough : goal.returns-then-least-enough
returns-then-least-enough c =
    subst (λ v. IsAhead c.args.self.now.problem c.args.self.now.person c.args.self.now.timeline c.args.self.now.units v c.args.flight c.args.load c.args.q c.args.due.class c.args.due.need (to_z w64 c.loop-i.least-bits)) (to_z-of_z w64 c.args.value c.ranges.value)
    (λ before rest of begun class owed brought flown taken. let known = c.loop-i.invariant before rest of begun class owed brought flown taken in omega (arith, ints, known, c.loop-i.least-is))
