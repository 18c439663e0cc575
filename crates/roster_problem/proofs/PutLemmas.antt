-- What becomes of a list where a number is put at the places of a set.
use Rattle.std.proofs.Common.{◌≡◌, ℕ, ◌<◌, true, false, cond, List, length, get_or, sym, ap, ◌∙◌, inl, inr, arith}
use Rattle.std.specs.Prelude.{All}
use Rattle.std.proofs.lemmas.Bool.{cases_Bool}
use Rattle.std.proofs.lemmas.List.{ext_get_or}
use Rattle.roster_model.specs.Rules.{is_among}
use Rattle.roster_model.proofs.SetLemmas.{All-is_among}
use Rattle.roster_problem.specs.Placing.{IsPut}

-- the number at a place of the set, and at another one
pub put_there : (number : ℕ) (set old new : List ℕ) (p : ℕ) → IsPut number set old new → p < length old
    → is_among set p ≡ true → get_or new p 0 ≡ number
put_there number set old new p put inside member =
    put.each p inside ∙ ap (λ b. cond b number (get_or old p 0)) member

pub put_elsewhere : (number : ℕ) (set old new : List ℕ) (p : ℕ) → IsPut number set old new → p < length old
    → is_among set p ≡ false → get_or new p 0 ≡ get_or old p 0
put_elsewhere number set old new p put inside other =
    put.each p inside ∙ ap (λ b. cond b number (get_or old p 0)) other

-- the list has the number at each place of the set
abbrev pub Throughout : ℕ → List ℕ → List ℕ → Type 0
Throughout number set places = All (λ p. get_or places p 0 ≡ number) set

-- if the old number is put back, the list is the old one
pub put_back : (number before : ℕ) (set old mid new : List ℕ) → Throughout before set old
    → IsPut number set old mid → IsPut before set mid new → new ≡ old
put_back number before set old mid new free put back =
    let long = put.covers in
    let longer = back.covers in
    ext_get_or 0 new old (omega arith) (λ p inside. elim (cases_Bool (is_among set p)) [
      | inl member ↦
          put_there before set mid new p back (omega arith) member
          ∙ sym (All-is_among (λ q. get_or old q 0 ≡ before) set p free member)
      | inr other ↦
          put_elsewhere before set mid new p back (omega arith) other
          ∙ put_elsewhere number set old mid p put (omega arith) other
    ])
