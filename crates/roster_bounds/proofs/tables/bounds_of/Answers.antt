use Rattle.std.proofs.Common.{◌≡◌, ◌+◌, ◌<◌, ℕ, length, List, [], ◌∷◌, ◌++◌, get_or, ℤ, pos, sym, ap, ◌∙◌, subst, inl, inr, arith}
use Rattle.std.proofs.lemmas.Bool.{cases_lt}
use Rattle.std.proofs.lemmas.List.{get_or_append_left, get_or_push, length-append}
use Rattle.roster_model.specs.Problem.{Problem}
use Rattle.roster_bounds.specs.Amounts.{AreReduced}
use Rattle.roster_bounds.specs.Chosen.{AreReducedBounds, IsLeastReduced, IsReducedBound}
use Rattle.roster_bounds.proofs.PricedLines.{same_reduced}
use Rattle.roster_bounds.proofs.tables.bounds_of.Goals as goal

-- the bounds of the persons so far, and that of one more
one_more : (problem : Problem) (prices : List ℤ) (k : ℕ) (old : List ℤ) (bound : ℤ)
    → AreReducedBounds problem prices k old → IsReducedBound problem prices k bound → AreReduced 1 bound
    → AreReducedBounds problem prices (k + 1) (old ++ bound ∷ [])
one_more problem prices k old bound are below fits =
    let new : List ℤ = old ++ bound ∷ [] in
    let last : get_or new k (pos 0) ≡ bound = get_or_push old bound (pos 0) k are.covers in
    record {
      covers = omega (arith, are.covers, length-append old (bound ∷ []));
      each = λ j less. elim (cases_lt j k) [
        | inl before ↦ subst (IsReducedBound problem prices j) (sym (get_or_append_left old (bound ∷ []) (pos 0) j (omega (arith, are.covers)))) (are.each j before)
        | inr on ↦ let here : k ≡ j = omega arith in subst (λ i. IsReducedBound problem prices i (get_or new i (pos 0))) here (subst (IsReducedBound problem prices k) (sym last) below)
      ];
      fits = λ j less. elim (cases_lt j k) [
        | inl before ↦ subst (AreReduced 1) (sym (get_or_append_left old (bound ∷ []) (pos 0) j (omega (arith, are.covers)))) (are.fits j before)
        | inr on ↦ let here : k ≡ j = omega arith in subst (λ i. AreReduced 1 (get_or new i (pos 0))) here (subst (AreReduced 1) (sym last) fits)
      ];
    }

-- each of them is the least of its person, and so is one more
one_least_more : (problem : Problem) (prices : List ℤ) (k : ℕ) (old : List ℤ) (bound : ℤ) → length old ≡ k
    → ((j : ℕ) → j < k → IsLeastReduced problem prices j (get_or old j (pos 0)))
    → IsLeastReduced problem prices k bound
    → (j : ℕ) → j < k + 1 → IsLeastReduced problem prices j (get_or (old ++ bound ∷ []) j (pos 0))
one_least_more problem prices k old bound covers are least j less =
    let new : List ℤ = old ++ bound ∷ [] in
    elim (cases_lt j k) [
      | inl before ↦ subst (IsLeastReduced problem prices j) (sym (get_or_append_left old (bound ∷ []) (pos 0) j (omega (arith, covers)))) (are j before)
      | inr on ↦
          let here : k ≡ j = omega arith in
          subst (λ i. IsLeastReduced problem prices i (get_or new i (pos 0))) here
          (subst (IsLeastReduced problem prices k) (sym (get_or_push old bound (pos 0) k covers)) least)
    ]

pub loop-k-preserved : goal.loop-k-preserved
loop-k-preserved c =
    let problem = c.args.problem.now in
    let prices = c.args.prices.now in
    let k = c.loop-k.k in
    let bound = c.in_ok-least_reduced.field-0 in
    let least = c.in_ok-least_reduced.ensures.least in
    let same = same_reduced bound c.in_ok-least_reduced.ensures.bound in
    let items = sym (c.in_ok-push.ensures.items ∙ ap (λ (z : ℤ). c.loop-k.bounds.items ++ z ∷ []) same) in
    let old = c.loop-k.invariant.below in
    record {
      below =
          subst (AreReducedBounds problem prices (k + 1)) items
          (one_more problem prices k c.loop-k.bounds.items bound old least.below c.in_ok-least_reduced.ensures.bound);
      least =
          subst (λ (bounds : List ℤ). (j : ℕ) → j < k + 1 → IsLeastReduced problem prices j (get_or bounds j (pos 0)))
          items
          (one_least_more problem prices k c.loop-k.bounds.items bound old.covers c.loop-k.invariant.least least);
    }
