-- The set of a number in a list of places.
use Rattle.std.proofs.Common.{◌≡◌, ℕ, zero, suc, ◌+◌, ◌<◌, ◌≤◌, Bool, true, false, ◌&&◌, ◌||◌, cond, eqb, eq-eqb, List, [], ◌∷◌, ◌++◌, length, take, get_or, Option, refl, ap, ◌∙◌, arith}
use Rattle.std.specs.Prelude.{slice_get}
use Rattle.std.specs.List.{list_any}
use Rattle.std.specs.Option.{option_map_or}
use Rattle.std.proofs.lemmas.Option.{slice_get-get_or, slice_get_past}
use Rattle.std.proofs.lemmas.List.{take_more, length-take-le}
use Rattle.std.proofs.lemmas.Bool.{ne_eqb}
use Rattle.std.proofs.lemmas.Bool.Decides.{nat_tests}
use Rattle.roster_model.specs.Rules.{is_among}
use Rattle.roster_model.specs.Places.{places_with, set_of}

-- one element that is in the list or not
list_any-cond : (b : Bool) (test : ℕ → Bool) (p : ℕ) (rest : List ℕ)
    → list_any test (cond b (p ∷ rest) rest) ≡ ((b && test p) || list_any test rest)
list_any-cond true test p rest = refl
list_any-cond false test p rest = refl

keeps : (b : Bool) → ((b && true) || false) ≡ b
keeps true = refl
keeps false = refl

drops : (b c : Bool) → ((b && false) || c) ≡ c
drops true c = refl
drops false c = refl

-- no place before the first
is_among-places_before : (k first p : ℕ) (places : List ℕ) → p < first
    → is_among (places_with k first places) p ≡ false
is_among-places_before k first p [] lt = refl
is_among-places_before k first p (x ∷ places) lt =
    let split = list_any-cond (eqb x k) (λ q. eqb q p) first (places_with k (first + 1) places) in
    let later = is_among-places_before k (first + 1) p places (omega arith) in
    split ∙ grind (arith, nat_tests)

-- a place is among those of k where the list has k at it
is_among-places_with : (k first i p : ℕ) (places : List ℕ) → first + i ≡ p
    → is_among (places_with k first places) p ≡ option_map_or (λ x. eqb x k) (slice_get places i) false
is_among-places_with k first i p [] at = refl
is_among-places_with k first zero p (x ∷ places) at =
    let split = list_any-cond (eqb x k) (λ q. eqb q p) first (places_with k (first + 1) places) in
    let later = is_among-places_before k (first + 1) p places (omega arith) in
    let here : eqb first p ≡ true = eq-eqb first p (omega arith) in
    split ∙ rw (here, later) (keeps (eqb x k))
is_among-places_with k first (suc i) p (x ∷ places) at =
    let split = list_any-cond (eqb x k) (λ q. eqb q p) first (places_with k (first + 1) places) in
    let later = is_among-places_with k (first + 1) i p places (omega arith) in
    let past : eqb first p ≡ false = ne_eqb first p (omega arith) in
    split ∙ rw (past, later) (drops (eqb x k) _)

-- a place is in the set of k where the list has k at it
pub is_among-set_of : (k p : ℕ) (places : List ℕ)
    → is_among (set_of k places) p ≡ option_map_or (λ x. eqb x k) (slice_get places p) false
is_among-set_of k p places = is_among-places_with k 0 p p places (omega arith)

-- the same for a place of the list
pub is_among-set_of_at : (k p : ℕ) (places : List ℕ) (d : ℕ) → p < length places
    → is_among (set_of k places) p ≡ eqb (get_or places p d) k
is_among-set_of_at k p places d within =
    is_among-set_of k p places
    ∙ ap (λ (found : Option ℕ). option_map_or (λ x. eqb x k) found false) (slice_get-get_or places p d within)

cond-append : (b : Bool) (p : ℕ) (xs ys : List ℕ)
    → cond b (p ∷ (xs ++ ys)) (xs ++ ys) ≡ cond b (p ∷ xs) xs ++ ys
cond-append true p xs ys = refl
cond-append false p xs ys = refl

-- a list of numbers with one more, which stands at place p
places_with-push : (k first p : ℕ) (places : List ℕ) (x : ℕ) → first + length places ≡ p
    → places_with k first (places ++ x ∷ []) ≡ places_with k first places ++ cond (eqb x k) (p ∷ []) []
places_with-push k first p [] x at =
    let same : first ≡ p = omega arith in
    ap (λ q. cond (eqb x k) (q ∷ []) []) same
places_with-push k first p (y ∷ places) x at =
    rw (places_with-push k (first + 1) p places x (omega arith))
    (cond-append (eqb y k) first (places_with k (first + 1) places) (cond (eqb x k) (p ∷ []) []))

pub set_of-push : (k : ℕ) (places : List ℕ) (x : ℕ)
    → set_of k (places ++ x ∷ []) ≡ set_of k places ++ cond (eqb x k) (length places ∷ []) []
set_of-push k places x = places_with-push k 0 (length places) places x (omega arith)

-- the set of k in the first i numbers, and in one more
pub set_of-take_more : (k i : ℕ) (places : List ℕ) (d : ℕ) → i < length places → set_of k (take (i + 1) places) ≡ set_of k (take i places) ++ cond (eqb (get_or places i d) k) (i ∷ []) []
set_of-take_more k i places d within =
    let front : length (take i places) ≡ i = length-take-le i places (omega arith) in
    rw (take_more places i d within) (set_of-push k (take i places) (get_or places i d) ∙ ap (λ n. set_of k (take i places) ++ cond (eqb (get_or places i d) k) (n ∷ []) []) front)

-- no place past the list's end
pub is_among-set_of_past : (k p : ℕ) (places : List ℕ) → length places ≤ p
    → is_among (set_of k places) p ≡ false
is_among-set_of_past k p places past =
    is_among-set_of k p places
    ∙ ap (λ (found : Option ℕ). option_map_or (λ x. eqb x k) found false) (slice_get_past places p past)
