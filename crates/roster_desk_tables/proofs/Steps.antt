-- What is so of all numbers below another one, and of one more.
use Rattle.std.proofs.Common.{◌≡◌, ◌∙◌, ◌+◌, ◌++◌, ◌∷◌, ◌||◌, ◌<◌, [], ℕ, Bool, List, true, false, ap, ap₂, arith, inl, inr, subst, suc, sym, zero}
use Rattle.std.specs.List.{count_by, flat_map, list_any, range_with_len}
use Rattle.std.proofs.lemmas.Bool.{cases_eq, or_left, or_right}
use Rattle.std.proofs.lemmas.List.{flat_map_more}
use Rattle.std.proofs.lemmas.List.Folds.{list_any-append}
use Rattle.std.proofs.lemmas.List.Sums.{sum_by-append}

next_in_range : (first n last : ℕ) → first + n ≡ last → range_with_len first (suc n) ≡ range_with_len first n ++ last ∷ []
next_in_range first zero last same = let here : first ≡ last = omega arith in ap (λ k. k ∷ []) here
next_in_range first (suc n) last same = ap (λ rest. first ∷ rest) (next_in_range (first + 1) n last (omega arith))

one_more : (n : ℕ) → range_with_len 0 (n + 1) ≡ range_with_len 0 n ++ n ∷ []
one_more n =
    let one : n + 1 ≡ suc n = omega arith in
    ap (range_with_len 0) one ∙ next_in_range 0 n n (omega arith)

-- lines
pub behind : {all mid new : List ℕ} (line : List ℕ) → new ≡ mid ++ line → mid ≡ all → new ≡ all ++ line
behind line is was = is ∙ ap (λ t. t ++ line) was

pub lines_more : (line : ℕ → List ℕ) (out : List ℕ) (n : ℕ)
    → (out ++ flat_map line (range_with_len 0 n)) ++ line n ≡ out ++ flat_map line (range_with_len 0 (n + 1))
lines_more line out n =
    flat_map_more line out (range_with_len 0 n) n ∙ ap (λ r. out ++ flat_map line r) (sym (one_more n))

-- how many pass
one_of : (t : ℕ → Bool) (n : ℕ) (b : Bool) → t n ≡ b → count_by t (n ∷ []) ≡ count_by (λ x. b) (n ∷ [])
one_of t n b is = ap (λ c. count_by (λ x. c) (n ∷ [])) is

count_more : (t : ℕ → Bool) (n : ℕ)
    → count_by t (range_with_len 0 (n + 1)) ≡ count_by t (range_with_len 0 n) + count_by t (n ∷ [])
count_more t n = ap (count_by t) (one_more n) ∙ sum_by-append _ (range_with_len 0 n) (n ∷ [])

pub count_passed : (t : ℕ → Bool) (n : ℕ) → t n ≡ true
    → count_by t (range_with_len 0 (n + 1)) ≡ count_by t (range_with_len 0 n) + 1
count_passed t n is = count_more t n ∙ ap (λ m. count_by t (range_with_len 0 n) + m) (one_of t n true is)

pub count_failed : (t : ℕ → Bool) (n : ℕ) → t n ≡ false
    → count_by t (range_with_len 0 (n + 1)) ≡ count_by t (range_with_len 0 n)
count_failed t n is =
    let more : count_by t (range_with_len 0 (n + 1)) ≡ count_by t (range_with_len 0 n) + 0 =
    count_more t n ∙ ap (λ m. count_by t (range_with_len 0 n) + m) (one_of t n false is) in
    omega (arith, more)

-- whether one passes
any_more : (t : ℕ → Bool) (n : ℕ) → list_any t (range_with_len 0 (n + 1)) ≡ (list_any t (range_with_len 0 n) || (t n || false))
any_more t n = ap (list_any t) (one_more n) ∙ list_any-append t (range_with_len 0 n) (n ∷ [])

pub none_more : (t : ℕ → Bool) (n : ℕ) → list_any t (range_with_len 0 n) ≡ false → t n ≡ false
    → list_any t (range_with_len 0 (n + 1)) ≡ false
none_more t n before here = any_more t n ∙ ap₂ (λ a b. a || (b || false)) before here

pub any_below : (t : ℕ → Bool) (n i : ℕ) → i < n → t i ≡ true → list_any t (range_with_len 0 n) ≡ true
any_below t zero i below is = absurd (omega (arith, below))
any_below t (suc n) i below is =
    let one : suc n ≡ n + 1 = omega arith in
    let last : list_any t (range_with_len 0 (n + 1)) ≡ true =
    any_more t n ∙ elim (cases_eq i n) [
      | inl same ↦ or_right (list_any t (range_with_len 0 n)) _ (or_left (t n) _ (subst (λ k. t k ≡ true) same is))
      | inr other ↦ or_left (list_any t (range_with_len 0 n)) _ (any_below t n i (omega (arith, other, below)) is)
    ] in
    ap (λ k. list_any t (range_with_len 0 k)) one ∙ last
