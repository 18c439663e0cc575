use Rattle.std.proofs.Common.{◌≡◌, ℕ, ◌+◌, ◌<◌, ◌≤◌, List, ◌∷◌, ◌++◌, length, get_or, sym, ap, ◌∙◌, arith, ℤ, pos, ◌+ℤ◌, w64, to_z, of_z, FitsSigned, rules}
use Rattle.std.proofs.lemmas.Int.{ints, to_z-of_z}
use Rattle.std.proofs.lemmas.Option.{get_or_from_slice_get, slice_get-get_or}
use Rattle.roster_model.proofs.SetLemmas.{All-is_among}
use Rattle.roster_values.specs.Set.{places_from}
use Rattle.roster_values.proofs.SetParts.{places_from-first}
use Rattle.roster_cost.specs.Amounts.{IsWithin}
use Rattle.roster_plan_bound.specs.declared.parts.TheConstants.{MOST_CHAIN_VALUE}
use Rattle.roster_plan_bound.specs.Chains.{chain_value, next_state, value_at}
use Rattle.roster_plan_bound.proofs.ChainLemmas.{chain-cons}
use Rattle.roster_plan_bound.proofs.gap.along.Goals as goal

pub loop-q-init : goal.loop-q-init
loop-q-init c = record {
  few = omega arith;
  within = (omega (arith, ints), omega (arith, ints));
  inside = c.requires.some;
  brought = λ rest.
      let whole : chain_value c.args.network.now c.args.values.now 0 (c.args.set.now ++ rest) ≡ chain_value c.args.network.now c.args.values.now 0 (places_from 0 c.args.set.now ++ rest) =
      ap (λ xs. chain_value c.args.network.now c.args.values.now 0 (xs ++ rest))
      (sym (places_from-first c.args.set.now)) in
      omega (arith, ints, whole);
}

pub bounds-values-q : goal.bounds-values-q
bounds-values-q c =
    All-is_among
    (λ p. p < length c.args.values.now) c.args.set.now c.in-Some.q c.requires.covers c.in-Some.ensures.place.2

pub overflow_add-value : goal.overflow_add-value
overflow_add-value c =
    let inside : c.in-Some.q < length c.args.values.now = All-is_among (λ p. p < length c.args.values.now) c.args.set.now c.in-Some.q c.requires.covers c.in-Some.ensures.place.2 in
    let value : ℤ = value_at c.args.values.now c.in-Some.q in
    let within : IsWithin MOST_CHAIN_VALUE value = c.requires.values c.in-Some.q (pos 0) inside in
    let fits : FitsSigned w64 value = search rules in
    let told : to_z w64 (of_z w64 value) ≡ value = to_z-of_z w64 value fits in
    let low = c.loop-q.invariant.within.0 in
    let high = c.loop-q.invariant.within.1 in
    let few = c.loop-q.invariant.few in
    let low_here = within.0 in
    let high_here = within.1 in
    search rules

pub index-requires : goal.index-requires
index-requires c =
    let inside = All-is_among (λ p. p < length c.args.network.now.steps.items) c.args.set.now c.in-Some.q c.requires.steps c.in-Some.ensures.place.2 in
    omega (arith, inside, c.args.network.now.steps.ok.0)

slice_index_any : (xs : List ℕ) (i d : ℕ) → i < length xs → get_or xs i d ≡ get_or xs i 0
slice_index_any xs i d inside =
    sym (get_or_from_slice_get xs i (get_or xs i d) 0 (slice_get-get_or xs i d inside))

pub loop-q-preserved : goal.loop-q-preserved
loop-q-preserved c =
    let network = c.args.network.now in
    let values = c.args.values.now in
    let set = c.args.set.now in
    let q = c.in-Some.q in
    let inv = c.loop-q.invariant in
    let inside : q < length values =
    All-is_among (λ p. p < length values) set q c.requires.covers c.in-Some.ensures.place.2 in
    let value : ℤ = value_at values q in
    let within : IsWithin MOST_CHAIN_VALUE value = c.requires.values q (pos 0) inside in
    let fits : FitsSigned w64 value = search rules in
    let told : to_z w64 (of_z w64 value) ≡ value = to_z-of_z w64 value fits in
    let before : ℤ = to_z w64 c.loop-q.value-bits in
    let whole : ℤ = before +ℤ to_z w64 (of_z w64 value) in
    let low = inv.within.0 in
    let high = inv.within.1 in
    let few = inv.few in
    let low_here = within.0 in
    let high_here = within.1 in
    let whole_fits : FitsSigned w64 whole = search rules in
    let whole_told : to_z w64 (of_z w64 whole) ≡ before +ℤ value =
    to_z-of_z w64 whole whole_fits ∙ ap (λ z. before +ℤ z) told in
    let above : c.loop-q.from ≤ q = c.in-Some.ensures.place.0 in
    let below = c.in-Some.ensures.place.1 in
    let states : c.len.result ≡ length network.terms.items =
    omega (arith, c.len.ensures, network.terms.ok.0) in
    let stepped : c.index.result.now ≡ get_or network.steps.items q 0 = c.index.ensures ∙ slice_index_any network.steps.items q c.index.result.now (All-is_among (λ p. p < length network.steps.items) set q c.requires.steps c.in-Some.ensures.place.2) in
    let state : c.next_state-state.result ≡ next_state (length network.terms.items) c.loop-q.state (get_or network.steps.items q 0) =
    c.next_state-state.ensures.value ∙ ap (λ n. next_state n c.loop-q.state c.index.result.now) states
    ∙ ap (next_state (length network.terms.items) c.loop-q.state) stepped in
    record {
      few = omega (arith, below);
      within = (omega (arith, ints, low, low_here, whole_told, above), omega (arith, ints, high, high_here, whole_told, above));
      inside = omega (arith, c.next_state-state.ensures.inside, states);
      brought = λ rest.
          let was = inv.brought rest in
          let next : chain_value network values c.loop-q.state (places_from c.loop-q.from set ++ rest) ≡ chain_value network values c.loop-q.state (q ∷ (places_from (q + 1) set ++ rest)) =
          ap (λ xs. chain_value network values c.loop-q.state (xs ++ rest)) c.in-Some.ensures.rest in
          let step = chain-cons network values c.loop-q.state q (places_from (q + 1) set ++ rest) in
          let there = ap (λ f. chain_value network values f (places_from (q + 1) set ++ rest)) state in
          omega (arith, ints, was, next, step, there, whole_told);
    }
