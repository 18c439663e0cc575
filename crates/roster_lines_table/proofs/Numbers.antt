-- The line numbers of a roster.
use Rattle.std.proofs.Common.{◌≡◌, ℕ, zero, suc, List, [], ◌∷◌, length, get_or, Some, refl, ap, subst, arith}
use Rattle.std.specs.Prelude.{slice_get}
use Rattle.std.proofs.lemmas.List.{same_lists}
use Rattle.std.proofs.lemmas.Option.{none-some, same_Some, slice_get_within, slice_get-get_or}
use Rattle.roster_model.specs.Lines.{AreNumbersOf, AreTables}
use Rattle.roster_model.specs.Problem.{Problem}
use Rattle.roster_model.specs.Places.{set_of}
use Rattle.roster_model.specs.Rosters.{IsLegalRoster}
use Rattle.roster_lines_table.proofs.Cuts.{one_place}
use Rattle.roster_model.proofs.LineLemmas.{given_line}

chosen : {A B : Type 0} (R : ℕ → A → B → Type 0) (x : A) (xs : List A) (y : B) (ys : List B) → R 0 x y
    → ((j : ℕ) (v : A) (w : B) → slice_get xs j ≡ Some v → slice_get ys j ≡ Some w → R (suc j) v w)
    → (j : ℕ) (v : A) (w : B) → slice_get (x ∷ xs) j ≡ Some v → slice_get (y ∷ ys) j ≡ Some w → R j v w
chosen R x xs y ys first rest zero v w at other =
    subst (R 0 v) (same_Some y w other) (subst (λ u. R 0 u y) (same_Some x v at) first)
chosen R x xs y ys first rest (suc j) v w at other = rest j v w at other

-- what there is for each element, as a list
choices : {A B : Type 0} (R : ℕ → A → B → Type 0) (xs : List A) → ((j : ℕ) (x : A) → slice_get xs j ≡ Some x → (y : B) × R j x y) → (ys : List B) × (length ys ≡ length xs) × ((j : ℕ) (x : A) (y : B) → slice_get xs j ≡ Some x → slice_get ys j ≡ Some y → R j x y)
choices R [] each = ([], refl, λ j x y at other. absurd (none-some _ at))
choices R (x ∷ xs) each =
    let first = each 0 x refl in
    let rest = choices (λ j. R (suc j)) xs (λ j z at. each (suc j) z at) in
    (first.0 ∷ rest.0, ap suc rest.1, chosen R x xs first.0 rest.0 first.1 rest.2)

pub AreNumbersOf-exist : (problem : Problem) (tables : List (List (List ℕ))) (places : List ℕ)
    → AreTables problem tables → IsLegalRoster problem places
    → (numbers : List ℕ) × AreNumbersOf tables places numbers
AreNumbersOf-exist problem tables places are roster =
    let found =
    choices (λ k (sets : List (List ℕ)) i. slice_get sets i ≡ Some (set_of k places)) tables (λ k sets at.
    let inside = slice_get_within tables k sets at in
    let covers = are.covers in
    (are.each k sets at).every (set_of k places) (given_line problem k places roster (omega arith))) in (
      found.0,
      record {
        box = record {
          covers = found.1;
          numbered =
              λ k i sets number at. slice_get_within sets i (set_of k places) (found.2 k sets i at number);
        };
        sets = λ k i sets number at. found.2 k sets i at number;
      },
    )

pub AreNumbersOf-one : (problem : Problem) (tables : List (List (List ℕ))) (places a b : List ℕ)
    → AreTables problem tables → AreNumbersOf tables places a → AreNumbersOf tables places b → a ≡ b
AreNumbersOf-one problem tables places a b are first second =
    let long = first.box.covers in
    let also = second.box.covers in
    same_lists a b (omega arith) (λ k d inside.
    let sets : List (List ℕ) = get_or tables k [] in
    let at = slice_get-get_or tables k [] (omega arith) in
    one_place sets (are.each k sets at).some.ordered (get_or a k d) (get_or b k d) (set_of k places)
    (first.sets k (get_or a k d) sets (slice_get-get_or a k d inside) at)
    (second.sets k (get_or b k d) sets (slice_get-get_or b k d (omega arith)) at))
