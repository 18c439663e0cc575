-- Duties in their order in time.
use Rattle.std.proofs.Common.{◌≡◌, ℕ, ◌<◌, ◌≤◌, false, List, length, get_or, Some, subst, sym, ◌∙◌, inl, inr, arith}
use Rattle.std.specs.Prelude.{AllPairs, slice_get}
use Rattle.std.proofs.lemmas.Bool.{cases_eq}
use Rattle.std.proofs.lemmas.Bool.Decides.{nat_tests}
use Rattle.std.proofs.lemmas.Option.{get_or_from_slice_get, same_Some, slice_get_within}
use Rattle.roster_model.specs.Problem.{precedes}
use Rattle.roster_model.specs.records.Duty.{Duty}

-- what all pairs have, those at two places have
pub pair_at : (R : Duty → Duty → Type 0) (list : List Duty) → AllPairs R list → (i j : ℕ) (a b : Duty) → i < j
    → slice_get list i ≡ Some a → slice_get list j ≡ Some b → R a b
pair_at R list all i j a b before first second =
    let inside : j < length list = slice_get_within list j b second in
    subst (R a) (get_or_from_slice_get list j b b second)
    (subst (λ d. R d (get_or list j b)) (get_or_from_slice_get list i a b first) (all i j b before inside))

reports : (a b : Duty) → precedes b a ≡ false → a.report ≤ b.report
reports a b h = grind (arith, nat_tests)

-- a later duty reports no earlier
pub reports-later : (list : List Duty) → AllPairs (λ a b. precedes b a ≡ false) list → (i j : ℕ) (a b : Duty)
    → i ≤ j → slice_get list i ≡ Some a → slice_get list j ≡ Some b → a.report ≤ b.report
reports-later list ordered i j a b order first second =
    elim (cases_eq i j) [
      | inl same ↦
          let one = same_Some a b (sym first ∙ subst (λ k. slice_get list k ≡ Some b) (sym same) second) in
          subst (λ (d : Duty). a.report ≤ d.report) one (omega arith)
      | inr apart ↦ reports a b (pair_at (λ a b. precedes b a ≡ false) list ordered i j a b (omega arith) first second)
    ]
