use Rattle.std.proofs.Common.{◌≡◌, ℕ, ◌+◌, ◌<◌, List, ◌++◌, length, take, drop, ℤ, ◌+ℤ◌, ◌≤ℤ◌, sym, ap, ◌∙◌, subst, w64, to_z, of_z}
use Rattle.std.specs.Prelude.{All}
use Rattle.std.proofs.Math.Seq.{take-append_seam}
use Rattle.std.proofs.lemmas.Int.{to_z-of_z}
use Rattle.roster_cost.specs.Amounts.{IsWithin}
use Rattle.roster_plan_bound.specs.declared.parts.TheConstants.{MOST_AMOUNT, MOST_CHAIN_VALUE}
use Rattle.roster_plan_bound.specs.Chains.{next_state, value_at}
use Rattle.roster_plan_bound.proofs.rows.ChainRow.relax.Goals as goal

pub relax-requires-clause-after : goal.relax-requires-clause-after
relax-requires-clause-after c =
    subst (All (IsWithin MOST_AMOUNT)) (sym (c.deref.ensures.value ∙ c.after.view_is)) c.requires.after

-- where all values are written, nothing is left of the old ones
written : (count : ℕ) (old new : List ℤ) → count ≡ length old → length new ≡ length old
    → take count (new ++ drop (length new) old) ≡ new
written count old new all same =
    ap (λ n. take n (new ++ drop (length new) old)) (all ∙ sym same)
    ∙ take-append_seam new (drop (length new) old)

new : (c : goal.After-self-1)
    → take c.self.inside.values.len (c.relax.new.row ++ drop (length c.relax.new.row) c.self.inside.values.items) ≡ c.relax.new.row
new c =
    let vec = c.self.inside.values in
    written vec.len vec.items c.relax.new.row vec.ok.0
    (c.relax.ensures.same ∙ ap length c.deref_mut.ensures.value)

old : (c : goal.After-self-1) → c.deref_mut.result.now ≡ c.args.self.now
old c = c.deref_mut.ensures.value ∙ c.self.view_is

after : (c : goal.After-self-1) → c.deref.result.now ≡ c.args.after.now
after c = c.deref.ensures.value ∙ c.after.view_is

pub returns-clause-same : goal.returns-clause-same
returns-clause-same c = ap length (new c) ∙ c.relax.ensures.same ∙ ap length (old c)

pub returns-clause-kept : goal.returns-clause-kept
returns-clause-kept c f inside =
    subst (λ row. value_at row f ≤ℤ value_at c.args.self.now f) (sym (new c))
    (subst (λ row. value_at c.relax.new.row f ≤ℤ value_at row f) (old c)
    (c.relax.ensures.kept f (subst (λ row. f < length row) (sym (old c)) inside)))

pub returns-clause-through : goal.returns-clause-through
returns-clause-through c f inside =
    let value = to_z w64 (of_z w64 c.args.value) in
    let states = length c.args.self.now in
    let through =
    subst (λ row. value_at c.relax.new.row f ≤ℤ (value +ℤ value_at c.deref.result.now (next_state (length row) f c.args.step))) (old c)
    (c.relax.ensures.through f (subst (λ row. f < length row) (sym (old c)) inside)) in
    let behind =
    subst (λ row. value_at c.relax.new.row f ≤ℤ (value +ℤ value_at row (next_state states f c.args.step)))
    (after c) through in
    let told =
    subst (λ z. value_at c.relax.new.row f ≤ℤ (z +ℤ value_at c.args.after.now (next_state states f c.args.step)))
    (to_z-of_z w64 c.args.value c.ranges.value) behind in
    subst (λ row. value_at row f ≤ℤ (c.args.value +ℤ value_at c.args.after.now (next_state states f c.args.step)))
    (sym (new c)) told

pub returns-clause-within : goal.returns-clause-within
returns-clause-within c most behind before =
    subst (All (IsWithin (most + MOST_CHAIN_VALUE))) (sym (new c))
    (c.relax.ensures.within most (subst (All (IsWithin most)) (sym (after c)) behind)
    (subst (All (IsWithin (most + MOST_CHAIN_VALUE))) (sym (old c)) before))
