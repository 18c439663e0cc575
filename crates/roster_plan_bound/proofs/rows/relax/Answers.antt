use Rattle.std.proofs.Common.{subst, sym, inl, inr, arith, ◌+ℤ◌, ◌≤ℤ◌, length, ◌∙◌, w64, to_z, of_z}
use Rattle.roster_plan_bound.specs.Chains.{next_state, value_at}
use Rattle.std.proofs.lemmas.Bool.{cases_eq}
use Rattle.std.proofs.lemmas.Int.{ints}
use Rattle.roster_plan_bound.proofs.rows.relax.Goals as goal

pub loop-f-preserved : goal.loop-f-preserved
loop-f-preserved c =
    let inv = c.loop-f.invariant in
    let now = c.relax_at.ensures in
    record {
      same = now.same ∙ inv.same;
      kept = λ g inside. elim (cases_eq g c.loop-f.f) [
        | inl here ↦ let before = inv.kept g inside in let k = subst (λ i. value_at c.relax_at.new.row i ≤ℤ value_at c.loop-f.row i) (sym here) now.kept in omega (arith, ints, before, k)
        | inr other ↦ let before = inv.kept g inside in omega (arith, ints, before, now.others g other)
      ];
      through = λ g below. elim (cases_eq g c.loop-f.f) [
        | inl here ↦ subst (λ i. value_at c.relax_at.new.row i ≤ℤ (to_z w64 (of_z w64 c.args.value) +ℤ value_at c.args.after.now (next_state (length c.args.row.now) i c.args.step))) (sym here)
            (subst (λ n. value_at c.relax_at.new.row c.loop-f.f ≤ℤ (to_z w64 (of_z w64 c.args.value) +ℤ value_at c.args.after.now (next_state n c.loop-f.f c.args.step))) inv.same now.through)
        | inr other ↦ let before = inv.through g (omega arith) in omega (arith, ints, before, now.others g other)
      ];
      within = λ most after old. now.within most after (inv.within most after old);
    }
