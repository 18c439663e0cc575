use Rattle.std.proofs.Common.{◌≡◌, ℕ, ◌+◌, ◌<◌, ◌++◌, eq-eqb, List, [], ◌∷◌, length, take, get_or, sym, subst, ap, ◌∙◌, arith, append-nil}
use Rattle.std.specs.Prelude.{All}
use Rattle.std.proofs.lemmas.Bool.{cond-true, cond-false, ne_eqb}
use Rattle.std.proofs.lemmas.List.{length-take-le}
use Rattle.roster_model.specs.Places.{set_of}
use Rattle.roster_model.proofs.PlacesLemmas.{set_of-take_more}
use Rattle.roster_model.proofs.SetLemmas.{Ascends-set_of, places_of_number}
use Rattle.roster_values.specs.Set.{with_place}
use Rattle.roster_values.proofs.SetParts.{with_place-last}
use Rattle.roster_values.proofs.set.Set.of_places.Goals as goal
use Rattle.roster_values.proofs.set.Set.of_places.Goals.{then-from-number, else-from-number}

one_more : (k i : ℕ) (places : List ℕ) → i < length places → get_or places i 0 ≡ k
    → with_place i (set_of k (take i places)) ≡ set_of k (take (i + 1) places)
one_more k i places inside here =
    let front : length (take i places) ≡ i = length-take-le i places (omega arith) in
    let below : All (λ q. q < i) (set_of k (take i places)) =
    subst (λ n. All (λ q. q < n) (set_of k (take i places))) front (places_of_number k (take i places)) in
    with_place-last i _ (Ascends-set_of k (take i places)) below
    ∙ sym (set_of-take_more k i places 0 inside ∙ ap (λ xs. set_of k (take i places) ++ xs) (cond-true _ (i ∷ []) [] (eq-eqb _ k here)))

none_more : (k i : ℕ) (places : List ℕ) → i < length places → (get_or places i 0 ≡ k → ⊥)
    → set_of k (take i places) ≡ set_of k (take (i + 1) places)
none_more k i places inside other =
    sym (set_of-take_more k i places 0 inside ∙ ap (λ xs. set_of k (take i places) ++ xs) (cond-false _ (i ∷ []) [] (ne_eqb _ k other)) ∙ append-nil _)

pub loop-p-preserved : goal.loop-p-preserved
loop-p-preserved c =
    let i : ℕ = c.loop-p.p in
    let places = c.args.places.now in
    elim c.if-from-number.branch [
      | then-from-number w ↦ w.set-is ∙ w.put.ensures.value ∙ ap (with_place i) c.loop-p.invariant ∙ one_more c.args.number i places (omega arith) (sym c.from.ensures ∙ w.if-from-number.true)
      | else-from-number w ↦ w.set-is ∙ c.loop-p.invariant ∙ none_more c.args.number i places (omega arith) (λ e. w.if-from-number.false (c.from.ensures ∙ e))
    ]
