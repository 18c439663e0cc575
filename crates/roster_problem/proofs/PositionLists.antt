-- Positions of the elements that pass a test, and the elements at some positions.
use Rattle.std.proofs.Common.{◌≡◌, ℕ, zero, suc, ◌+◌, ◌<◌, ◌≤◌, Bool, true, false, cond, List, [], ◌∷◌, ◌++◌, length, take, get_or, Option, Some, refl, sym, ap, ◌∙◌, subst, inl, inr, arith, append_assoc, length-append}
use Rattle.std.specs.Prelude.{All, filter, slice_get}
use Rattle.std.specs.List.Sorted.{IsStrictlyIncreasing}
use Rattle.std.specs.Option.{option_to_list, option_map_or}
use Rattle.std.proofs.lemmas.Bool.{cases_Bool, cond-true, cond-false}
use Rattle.std.proofs.lemmas.List.{take_more, length-take-le, get_or_at, length_push}
use Rattle.std.proofs.lemmas.List.Elements.{All-nil, All-cons, All-head, All-tail, All-weaker}
use Rattle.std.proofs.lemmas.Option.{slice_get-get_or, slice_get_cases, none-some, same_Some}
use Rattle.roster_model.specs.Rules.{is_among}
use Rattle.roster_model.specs.records.Duty.{Duty}
use Rattle.roster_model.proofs.SetLemmas.{Ascends, Ascends-from_rising, rising_from_Ascends, is_among-before, is_among-here, is_among-later, same_set}
use Rattle.roster_problem.specs.Duties.{picked, positions_where, ArePositions, ArePositionsOf}

-- ---- one element more

cond-append : (b : Bool) (i : ℕ) (xs ys : List ℕ)
    → cond b (i ∷ (xs ++ ys)) (xs ++ ys) ≡ cond b (i ∷ xs) xs ++ ys
cond-append true i xs ys = refl
cond-append false i xs ys = refl

positions_where-append : {X : Type 0} (test : X → Bool) (i at : ℕ) (xs : List X) (x : X) → i + length xs ≡ at
    → positions_where test i (xs ++ x ∷ []) ≡ positions_where test i xs ++ cond (test x) (at ∷ []) []
positions_where-append test i at [] x e =
    let same : i ≡ at = omega arith in
    ap (λ k. cond (test x) (k ∷ []) []) same
positions_where-append test i at (y ∷ xs) x e =
    rw (positions_where-append test (i + 1) at xs x (omega arith))
    (cond-append (test y) i (positions_where test (i + 1) xs) (cond (test x) (at ∷ []) []))

pub positions_where-more : {X : Type 0} (test : X → Bool) (i : ℕ) (xs : List X) (x : X) → i < length xs → x ≡ get_or xs i x → positions_where test 0 (take (i + 1) xs) ≡ positions_where test 0 (take i xs) ++ cond (test x) (i ∷ []) []
positions_where-more test i xs x inside is =
    let front : length (take i xs) ≡ i = length-take-le i xs (omega arith) in
    ap (positions_where test 0) (take_more xs i x inside ∙ ap (λ y. take i xs ++ y ∷ []) (sym is))
    ∙ positions_where-append test 0 i (take i xs) x (omega arith)

-- ---- they ascend, and are below the length

ascending_positions : {X : Type 0} (test : X → Bool) (i : ℕ) (xs : List X)
    → All (λ k. i ≤ k) (positions_where test i xs) × Ascends (positions_where test i xs)
ascending_positions test i [] = (All-nil (λ k. i ≤ k), tt)
ascending_positions test i (x ∷ xs) =
    let rest = ascending_positions test (i + 1) xs in
    let later =
    All-weaker (λ k. i + 1 ≤ k) (λ k. i < k) (λ k l. omega arith)
    (positions_where test (i + 1) xs) rest.0 in
    let weak =
    All-weaker (λ k. i + 1 ≤ k) (λ k. i ≤ k) (λ k l. omega arith)
    (positions_where test (i + 1) xs) rest.0 in
    let P : Bool → Type 0 = λ b. All (λ k. i ≤ k) (cond b (i ∷ positions_where test (i + 1) xs) (positions_where test (i + 1) xs)) × Ascends (cond b (i ∷ positions_where test (i + 1) xs) (positions_where test (i + 1) xs)) in
    elim (test x) as P [
      | true ↦ (All-cons (λ k. i ≤ k) i _ (omega arith) weak, (later, rest.1))
      | false ↦ (weak, rest.1)
    ]

positions_below : {X : Type 0} (test : X → Bool) (i n : ℕ) (xs : List X) → i + length xs ≡ n
    → All (λ k. k < n) (positions_where test i xs)
positions_below test i n [] e = All-nil (λ k. k < n)
positions_below test i n (x ∷ xs) e =
    let rest = positions_below test (i + 1) n xs (omega arith) in
    let P : Bool → Type 0 = λ b. All (λ k. k < n) (cond b (i ∷ positions_where test (i + 1) xs) (positions_where test (i + 1) xs)) in
    elim (test x) as P [ true ↦ All-cons (λ k. k < n) i _ (omega arith) rest | false ↦ rest ]

length-positions_where : {X : Type 0} (test : X → Bool) (i : ℕ) (xs : List X)
    → length (positions_where test i xs) ≤ length xs
length-positions_where test i [] = omega arith
length-positions_where test i (x ∷ xs) =
    let rest = length-positions_where test (i + 1) xs in
    let P : Bool → Type 0 = λ b. length (cond b (i ∷ positions_where test (i + 1) xs) (positions_where test (i + 1) xs)) ≤ suc (length xs) in
    elim (test x) as P [ true ↦ omega arith | false ↦ omega arith ]

-- ---- which positions there are

none_before : {X : Type 0} (test : X → Bool) (i p : ℕ) (xs : List X) → p < i
    → is_among (positions_where test i xs) p ≡ false
none_before test zero p xs l = absurd (omega arith)
none_before test (suc i) p xs l =
    let later =
    All-weaker (λ k. suc i ≤ k) (λ k. i < k) (λ k m. omega arith) (positions_where test (suc i) xs)
    (ascending_positions test (suc i) xs).0 in
    is_among-before i p (positions_where test (suc i) xs) later (omega arith)

among_from : {X : Type 0} (test : X → Bool) (i k p : ℕ) (xs : List X) → i + k ≡ p
    → is_among (positions_where test i xs) p ≡ option_map_or test (slice_get xs k) false
among_from test i k p [] e = refl
among_from test i zero p (x ∷ xs) e =
    let here : i ≡ p = omega arith in
    elim (cases_Bool (test x)) [
      | inl passes ↦ ap (λ ys. is_among ys p) (cond-true (test x) (i ∷ positions_where test (i + 1) xs) _ passes) ∙ subst (λ q. is_among (i ∷ positions_where test (i + 1) xs) q ≡ true) here (is_among-here i _) ∙ sym passes
      | inr fails ↦ ap (λ ys. is_among ys p) (cond-false (test x) (i ∷ positions_where test (i + 1) xs) _ fails) ∙ none_before test (i + 1) p xs (omega arith) ∙ sym fails
    ]
among_from test i (suc k) p (x ∷ xs) e =
    let other : i ≡ p → ⊥ = λ same. omega arith in
    let rest = among_from test (i + 1) k p xs (omega arith) in
    elim (cases_Bool (test x)) [
      | inl passes ↦ ap (λ ys. is_among ys p) (cond-true (test x) (i ∷ positions_where test (i + 1) xs) _ passes) ∙ is_among-later i p _ other ∙ rest
      | inr fails ↦ ap (λ ys. is_among ys p) (cond-false (test x) (i ∷ positions_where test (i + 1) xs) _ fails) ∙ rest
    ]

is_among-positions_where : {X : Type 0} (test : X → Bool) (xs : List X) (p : ℕ)
    → is_among (positions_where test 0 xs) p ≡ option_map_or test (slice_get xs p) false
is_among-positions_where test xs p = among_from test 0 p p xs (omega arith)

-- ---- the elements at them

picked-front : {X : Type 0} (test : X → Bool) (front xs whole : List X) (i : ℕ) → length front ≡ i
    → front ++ xs ≡ whole → picked whole (positions_where test i xs) ≡ filter test xs
picked-front test front [] whole i at is = refl
picked-front {X} test front (x ∷ xs) whole i at is =
    let rest : picked whole (positions_where test (i + 1) xs) ≡ filter test xs =
    picked-front test (front ++ x ∷ []) xs whole (i + 1) (omega (arith, length_push front x))
    (append_assoc front (x ∷ []) xs ∙ is) in
    let inside : i < length whole = omega (arith, length-append front (x ∷ xs), ap length is) in
    let here : slice_get whole i ≡ Some x =
    slice_get-get_or whole i x inside
    ∙ ap Some (ap (λ ys. get_or ys i x) (sym is) ∙ get_or_at front x xs x i at) in
    let P : Bool → Type 0 = λ b. picked whole (cond b (i ∷ positions_where test (i + 1) xs) (positions_where test (i + 1) xs)) ≡ cond b (x ∷ filter test xs) (filter test xs) in
    elim (test x) as P [
      | true ↦ ap (λ (o : Option X). option_to_list o ++ picked whole (positions_where test (i + 1) xs)) here ∙ ap (λ ys. x ∷ ys) rest
      | false ↦ rest
    ]

picked-positions_where : {X : Type 0} (test : X → Bool) (xs : List X)
    → picked xs (positions_where test 0 xs) ≡ filter test xs
picked-positions_where test xs = picked-front test [] xs xs 0 refl refl

-- all that is said of them
pub ArePositionsOf-where : {X : Type 0} (test : X → Bool) (xs : List X) (positions : List ℕ)
    → positions ≡ positions_where test 0 xs → ArePositionsOf test xs positions
ArePositionsOf-where test xs positions is = subst (ArePositionsOf test xs) (sym is) (record {
  value = refl;
  elements = picked-positions_where test xs;
  ascending = rising_from_Ascends _ (ascending_positions test 0 xs).1;
  members = is_among-positions_where test xs;
  within = positions_below test 0 (length xs) xs (omega arith);
  bound = length-positions_where test 0 xs;
})

-- ascending positions of just the elements that pass
pub picked-passing : {X : Type 0} (test : X → Bool) (xs : List X) (positions : List ℕ)
    → IsStrictlyIncreasing positions
    → ((p : ℕ) → is_among positions p ≡ option_map_or test (slice_get xs p) false)
    → picked xs positions ≡ filter test xs
picked-passing test xs positions rises members =
    ap (picked xs) (same_set positions (positions_where test 0 xs) (Ascends-from_rising positions rises) (ascending_positions test 0 xs).1 (λ p. members p ∙ sym (is_among-positions_where test xs p)))
    ∙ picked-positions_where test xs

first_picked : {X : Type 0} (xs : List X) (p : ℕ) (positions : List ℕ) → p < length xs
    → (x : X) × (slice_get xs p ≡ Some x) × (picked xs (p ∷ positions) ≡ x ∷ picked xs positions)
first_picked {X} xs p positions inside =
    elim (slice_get_cases xs p).1 [
      | inl found ↦ (found.0, found.2, ap (λ (o : Option X). option_to_list o ++ picked xs positions) found.2)
      | inr past ↦ absurd (let long = past.0 in omega arith)
    ]

pub length-picked : {X : Type 0} (xs : List X) (positions : List ℕ) → All (λ p. p < length xs) positions
    → length (picked xs positions) ≡ length positions
length-picked xs [] within = refl
length-picked xs (p ∷ positions) within =
    let first = first_picked xs p positions (All-head (λ p. p < length xs) p positions within) in
    ap length first.2 ∙ ap suc (length-picked xs positions (All-tail (λ p. p < length xs) p positions within))

pub slice_get-picked : {X : Type 0} (xs : List X) (positions : List ℕ) (k p : ℕ)
    → All (λ p. p < length xs) positions → slice_get positions k ≡ Some p
    → slice_get (picked xs positions) k ≡ slice_get xs p
slice_get-picked xs [] k p within at = absurd (none-some p at)
slice_get-picked xs (q ∷ positions) zero p within at =
    let first = first_picked xs q positions (All-head (λ p. p < length xs) q positions within) in
    ap (λ ys. slice_get ys 0) first.2 ∙ sym first.1 ∙ ap (slice_get xs) (same_Some q p at)
slice_get-picked xs (q ∷ positions) (suc k) p within at =
    let first = first_picked xs q positions (All-head (λ p. p < length xs) q positions within) in
    ap (λ ys. slice_get ys (suc k)) first.2
    ∙ slice_get-picked xs positions k p (All-tail (λ p. p < length xs) q positions within) at

-- ---- a list that was picked

pub length_of_list : (duties list : List Duty) (positions : List ℕ) → picked duties positions ≡ list
    → ArePositions duties positions → length positions ≡ length list
length_of_list duties list positions view are =
    sym (length-picked duties positions are.within) ∙ ap length view

pub duty_in_list : (duties list : List Duty) (positions : List ℕ) (k p : ℕ) → picked duties positions ≡ list
    → ArePositions duties positions → k < length positions → p ≡ get_or positions k p
    → slice_get list k ≡ slice_get duties p
duty_in_list duties list positions k p view are inside at =
    let there : slice_get positions k ≡ Some p = slice_get-get_or positions k p inside ∙ ap Some (sym at) in
    ap (λ ds. slice_get ds k) (sym view) ∙ slice_get-picked duties positions k p are.within there
