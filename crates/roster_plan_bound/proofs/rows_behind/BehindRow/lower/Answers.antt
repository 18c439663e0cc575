use Rattle.std.proofs.Common.{◌<◌, length, sym, ap, ◌∙◌, subst, inl, inr, arith, ℤ, ◌+ℤ◌, ◌≤ℤ◌, w64, to_z, of_z, FitsSigned, rules}
use Rattle.std.proofs.lemmas.Bool.{cases_eq, cases_lt}
use Rattle.std.proofs.lemmas.Int.{ints, to_z-of_z}
use Rattle.std.proofs.lemmas.List.{get_or_past}
use Rattle.roster_plan_bound.specs.Behinds.{lowest, row_at}
use Rattle.roster_plan_bound.proofs.rows_behind.BehindRow.lower.Goals as goal
use Rattle.roster_plan_bound.proofs.rows_behind.BehindRow.lower.Goals.{then-high-len, else-high-len}

pub loop-class-preserved : goal.loop-class-preserved
loop-class-preserved c =
    let inv = c.loop-class.invariant in
    let now = c.lower_at.ensures in
    record {
      same = now.same ∙ inv.same;
      kept = λ class. let before = inv.kept class in let after = now.kept class in omega (arith, ints, before, after);
      led = λ class amount low below least brought. elim (cases_eq class c.loop-class.class) [
        | inl here ↦
            let told = subst (λ i. (to_z w64 (of_z w64 c.args.value) +ℤ row_at c.args.after.now i) ≤ℤ amount) here brought in
            let behind : ℤ = c.at.result in
            let within = c.at.ensures.within c.requires.after in
            let fits : FitsSigned w64 behind = search rules in
            let at = subst (λ z. (to_z w64 (of_z w64 c.args.value) +ℤ z) ≤ℤ amount) (sym (to_z-of_z w64 behind fits ∙ c.at.ensures.value)) told in
            let less = c.brought.ensures.least amount least at in
            subst (λ i. row_at c.lower_at.new.self i ≤ℤ amount) (sym here) (omega (arith, ints, less, now.here))
        | inr other ↦
            let before = inv.led class amount low (omega (arith, below, other)) least brought in
            let after = now.kept class in
            omega (arith, ints, before, after)
      ];
      within = now.within;
    }

pub returns-clause-led : goal.returns-clause-led
returns-clause-led c class amount low high least brought =
    let inv = c.loop-class.invariant in
    elim (cases_lt class (length c.loop-class.self)) [
      | inl inside ↦ inv.led class amount low (until_above inside) least (subst (λ z. (z +ℤ row_at c.args.after.now class) ≤ℤ amount) (sym (to_z-of_z w64 c.args.value c.ranges.value)) brought)
      | inr past ↦ subst (λ z. z ≤ℤ amount) (sym (get_or_past c.loop-class.self class lowest past)) least
    ]
  where
    until_above : class < length c.loop-class.self → class < c.loop-class.class
    until_above inside = elim c.if-high-len.branch [
      | then-high-len w ↦ omega (arith, c.loop-class-test.false, w.until-is, high)
      | else-high-len w ↦ omega (arith, c.loop-class-test.false, w.until-is, c.len-len.ensures, c.self.inside.amounts.ok.0, ap length c.self.view_is, c.loop-class.invariant.same, inside)
    ]
