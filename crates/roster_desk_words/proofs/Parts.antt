-- A text of parts, and one part more.
use Rattle.std.proofs.Common.{◌≡◌, ◌∙◌, ◌+◌, ◌<◌, ◌++◌, ◌∷◌, [], ℕ, List, ap, arith, get_or, length, map, refl, subst, sym, take}
use Rattle.std.specs.List.{range_with_len}
use Rattle.std.proofs.lemmas.List.{append-nil, append_assoc, map-id, take_more}
use Rattle.std.proofs.lemmas.List.FromFn.{map-range_with_len_more}
use Rattle.roster_desk_words.specs.Parts.{AreParts}

pub one_more_part : {X : Type 0} (IsPart : X → List ℕ → Type 0) (xs : List X) (x : X) (text part : List ℕ)
    → AreParts IsPart xs text → IsPart x part → AreParts IsPart (xs ++ x ∷ []) (text ++ part)
one_more_part IsPart [] x text part are is = (part, [], is, refl, ap (λ t. t ++ part) are ∙ sym (append-nil part))
one_more_part IsPart (y ∷ xs) x text part are is = (
  are.0,
  are.1 ++ part,
  are.2,
  one_more_part IsPart xs x are.1 part are.3 is,
  ap (λ t. t ++ part) are.4 ∙ append_assoc are.0 are.1 part,
)

-- the parts of the first elements, and that of the next one, which was put behind them
pub next_part : {X : Type 0} (IsPart : X → List ℕ → Type 0) (xs : List X) (i : ℕ) (d : X) (text part shown all : List ℕ)
    → i < length xs → AreParts IsPart (take i xs) text → IsPart (get_or xs i d) part → shown ≡ part → all ≡ text ++ shown
    → AreParts IsPart (take (i + 1) xs) all
next_part IsPart xs i d text part shown all within are is same behind =
    subst (λ ys. AreParts IsPart ys all) (sym (take_more xs i d within))
    (subst (λ t. AreParts IsPart (take i xs ++ get_or xs i d ∷ []) t) (sym (behind ∙ ap (λ t. text ++ t) same))
    (one_more_part IsPart (take i xs) (get_or xs i d) text part are is))

-- parts that belong to what is made of the elements
pub parts_of_map : {X Y : Type 0} (IsPart : Y → List ℕ → Type 0) (f : X → Y) (xs : List X) (text : List ℕ)
    → AreParts (λ x. IsPart (f x)) xs text → AreParts IsPart (map f xs) text
parts_of_map IsPart f [] text are = are
parts_of_map IsPart f (x ∷ xs) text are = (are.0, are.1, are.2, parts_of_map IsPart f xs are.1 are.3, are.4)

-- the parts of the numbers below another one, and its own
below_more : (n : ℕ) → range_with_len 0 (n + 1) ≡ range_with_len 0 n ++ n ∷ []
below_more n =
    sym (map-id (range_with_len 0 (n + 1))) ∙ map-range_with_len_more (λ k. k) 0 n n (omega arith)
    ∙ ap (λ r. r ++ n ∷ []) (map-id (range_with_len 0 n))

pub part_below : (IsPart : ℕ → List ℕ → Type 0) (n : ℕ) (text part shown all : List ℕ)
    → AreParts IsPart (range_with_len 0 n) text → IsPart n part → shown ≡ part → all ≡ text ++ shown
    → AreParts IsPart (range_with_len 0 (n + 1)) all
part_below IsPart n text part shown all are is same behind =
    subst (λ below. AreParts IsPart below all) (sym (below_more n))
    (subst (λ t. AreParts IsPart (range_with_len 0 n ++ n ∷ []) t) (sym (behind ∙ ap (λ t. text ++ t) same))
    (one_more_part IsPart (range_with_len 0 n) n text part are is))
