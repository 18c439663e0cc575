-- The positions of the fixed duties of a person and of the duties of a set, gathered pairing by pairing.
use Rattle.std.proofs.Common.{◌≡◌, ℕ, ◌+◌, ◌<◌, ◌≤◌, Bool, true, false, ◌&&◌, ◌||◌, eqb, eq-eqb, List, [], ◌∷◌, ◌++◌, length, Option, Some, None, refl, sym, ap, ◌∙◌, subst, inl, inr, arith}
use Rattle.std.specs.Prelude.{nat_lt, All, filter, slice_get}
use Rattle.std.specs.List.{IsDistinct, AllByRecursion}
use Rattle.std.specs.List.Sorted.{IsStrictlyIncreasing, IsPermutation, IsSorted}
use Rattle.std.specs.Ordering.{nat_cmp}
use Rattle.std.specs.Option.{option_map_or}
use Rattle.std.proofs.Math.Bool.{or-false, or-true}
use Rattle.std.proofs.lemmas.Bool.{cases_lt, cases_eq, lt-ltb, le-ltb, ltb-true, ne_eqb, both_ways, and_parts, or_parts, or_right, eqb-false}
use Rattle.std.proofs.lemmas.List.Elements.{All-weaker, recursion_from_All}
use Rattle.std.proofs.lemmas.List.Sorted.{IsNonDecreasingBy-from_sort, list_any-IsPermutation}
use Rattle.std.proofs.lemmas.Map.Keys.{IsDistinct-cons, IsDistinct-head, IsDistinct-tail, IsDistinct-IsPermutation, IsStrictlyIncreasing-from_distinct}
use Rattle.std.proofs.lemmas.Option.{slice_get_past}
use Rattle.roster_model.specs.records.Duty.{Duty, Holder, OfPairing, OfPerson, is_held_by_pairing, is_held_by_person}
use Rattle.roster_model.specs.Rules.{is_among, is_listed}
use Rattle.roster_model.proofs.SetLemmas.{Ascends, Ascends-from_rising, is_among-filter, is_among-append, is_among-here, All-from_is_among}

-- ---- lists without repetition

apart_from : (x : ℕ) (ys : List ℕ) → is_among ys x ≡ false → AllByRecursion (λ y. eqb x y ≡ false) ys
apart_from x [] none = tt
apart_from x (y ∷ ys) none =
    let parts = or_parts (eqb y x) (is_among ys x) none in
    (ne_eqb x y (λ e. eqb-false y x parts.0 (sym e)), apart_from x ys parts.1)

all_apart : (x : ℕ) (xs ys : List ℕ) → AllByRecursion (λ y. eqb x y ≡ false) xs → is_among ys x ≡ false
    → AllByRecursion (λ y. eqb x y ≡ false) (xs ++ ys)
all_apart x [] ys h none = apart_from x ys none
all_apart x (z ∷ xs) ys h none = (h.0, all_apart x xs ys h.1 none)

pub IsDistinct-append : (xs ys : List ℕ) → IsDistinct eqb xs → IsDistinct eqb ys
    → ((i : ℕ) → is_among xs i ≡ true → is_among ys i ≡ false) → IsDistinct eqb (xs ++ ys)
IsDistinct-append [] ys first second apart = second
IsDistinct-append (x ∷ xs) ys first second apart =
    IsDistinct-cons eqb x (xs ++ ys)
    (all_apart x xs ys (IsDistinct-head eqb x xs first) (apart x (is_among-here x xs)))
    (IsDistinct-append xs ys (IsDistinct-tail eqb x xs first) second (λ i h. apart i (or_right (eqb x i) _ h)))

IsDistinct-from_ascending : (xs : List ℕ) → Ascends xs → IsDistinct eqb xs
unfolding IsDistinct
IsDistinct-from_ascending [] up = tt
IsDistinct-from_ascending (x ∷ xs) up =
    let apart = All-weaker (λ y. x < y) (λ y. eqb x y ≡ false) (λ y l. ne_eqb x y (λ e. let same : x ≡ y = e in omega arith)) xs up.0 in
    (recursion_from_All (λ y. eqb x y ≡ false) xs apart, IsDistinct-from_ascending xs up.1)

pub distinct_rising : (xs : List ℕ) → IsStrictlyIncreasing xs → IsDistinct eqb xs
distinct_rising xs rises = IsDistinct-from_ascending xs (Ascends-from_rising xs rises)

eqb_sym : (x y : ℕ) → eqb x y ≡ eqb y x
eqb_sym x y =
    elim (cases_eq x y) [
      | inl same ↦ eq-eqb x y same ∙ sym (eq-eqb y x (sym same))
      | inr other ↦ ne_eqb x y other ∙ sym (ne_eqb y x (λ e. other (sym e)))
    ]

-- numbers without repetition, sorted
pub rising_from_sort : (xs ys : List ℕ) → IsDistinct eqb xs → IsPermutation xs ys → IsSorted nat_cmp ys
    → IsStrictlyIncreasing ys
rising_from_sort xs ys distinct same sorted =
    IsStrictlyIncreasing-from_distinct ys (IsNonDecreasingBy-from_sort (λ x. x) ys sorted)
    (IsDistinct-IsPermutation eqb eqb_sym xs ys same distinct)

pub is_among-IsPermutation : (xs ys : List ℕ) (i : ℕ) → IsPermutation xs ys → is_among ys i ≡ is_among xs i
is_among-IsPermutation xs ys i same = sym (list_any-IsPermutation (λ x. eqb x i) xs ys same)

-- ---- the places so far

abbrev pub places_before : ℕ → List ℕ → List ℕ
places_before from set = filter (λ q. nat_lt q from) set

before-next : (from p q : ℕ) (b : Bool) → from ≤ p → (q ≡ p → b ≡ true) → (from ≤ q → q < p → b ≡ false)
    → (nat_lt q (p + 1) && b) ≡ ((nat_lt q from && b) || eqb q p)
before-next from p q b l here skipped =
    elim (cases_eq q p) [
      | inl same ↦ rw (lt-ltb q (p + 1) (omega arith), eq-eqb q p same, here same) (sym (or-true (nat_lt q from && true)))
      | inr other ↦ rw (ne_eqb q p other, or-false (nat_lt q from && b)) (elim (cases_lt q from) [
        | inl before ↦ rw (lt-ltb q (p + 1) (omega arith), lt-ltb q from before) refl
        | inr on ↦ elim (cases_lt q p) [
          | inl between ↦ rw (skipped on between, le-ltb q from on, lt-ltb q (p + 1) (omega arith)) refl
          | inr past ↦ rw (le-ltb q from on, le-ltb q (p + 1) (let apart = other in omega arith)) refl
        ]
      ])
    ]

-- with one pairing more, its duties are listed too
is_listed-next : (k from p : ℕ) (set : List ℕ) (holder : Holder) → from ≤ p → is_among set p ≡ true → ((q : ℕ) → from ≤ q → q < p → is_among set q ≡ false) → is_listed k (places_before (p + 1) set) holder ≡ (is_listed k (places_before from set) holder || is_held_by_pairing p holder)
is_listed-next k from p set (OfPerson j) l here skipped = sym (or-false (eqb j k))
is_listed-next k from p set (OfPairing q) l here skipped =
    is_among-filter (λ r. nat_lt r (p + 1)) set q
    ∙ before-next from p q (is_among set q) l (λ e. subst (λ r. is_among set r ≡ true) (sym e) here) (skipped q)
    ∙ ap (λ b. b || eqb q p) (sym (is_among-filter (λ r. nat_lt r from) set q))

pub either : (f g h : Duty → Bool) → ((duty : Duty) → h duty ≡ (f duty || g duty)) → (o : Option Duty)
    → option_map_or h o false ≡ (option_map_or f o false || option_map_or g o false)
either f g h e None = refl
either f g h e (Some duty) = e duty

pub neither : (f g : Duty → Bool) → ((duty : Duty) → f duty ≡ true → g duty ≡ false) → (o : Option Duty)
    → option_map_or f o false ≡ true → option_map_or g o false ≡ false
neither f g e None h = refl
neither f g e (Some duty) h = e duty h

not_held : (k from p : ℕ) (set : List ℕ) (holder : Holder) → from ≤ p
    → is_listed k (places_before from set) holder ≡ true → is_held_by_pairing p holder ≡ false
not_held k from p set (OfPerson j) l h = refl
not_held k from p set (OfPairing q) l h =
    let parts =
    and_parts (nat_lt q from) (is_among set q) (sym (is_among-filter (λ r. nat_lt r from) set q) ∙ h) in
    let before = ltb-true q from parts.0 in
    ne_eqb q p (λ e. let same : q ≡ p = e in omega arith)

-- whether the duty at a position is on the list of the places so far
abbrev pub is_gathered : ℕ → ℕ → List ℕ → List Duty → ℕ → Bool
is_gathered k from set duties i =
    option_map_or (λ duty. is_listed k (places_before from set) duty.holder) (slice_get duties i) false

abbrev pub is_of : ℕ → List Duty → ℕ → Bool
is_of p duties i = option_map_or (λ duty. is_held_by_pairing p duty.holder) (slice_get duties i) false

pub members-more : (k from p : ℕ) (set positions more : List ℕ) (duties : List Duty) → from ≤ p
    → is_among set p ≡ true → ((q : ℕ) → from ≤ q → q < p → is_among set q ≡ false)
    → ((i : ℕ) → is_among positions i ≡ is_gathered k from set duties i)
    → ((i : ℕ) → is_among more i ≡ is_of p duties i) → (i : ℕ)
    → is_among (positions ++ more) i ≡ is_gathered k (p + 1) set duties i
members-more k from p set positions more duties l here skipped old new i =
    is_among-append positions more i
    ∙ rw (old i, new i) (sym (either (λ duty. is_listed k (places_before from set) duty.holder) (λ duty. is_held_by_pairing p duty.holder) (λ duty. is_listed k (places_before (p + 1) set) duty.holder) (λ duty. is_listed-next k from p set duty.holder l here skipped) (slice_get duties i)))

pub distinct-more : (k from p : ℕ) (set positions more : List ℕ) (duties : List Duty) → from ≤ p
    → IsStrictlyIncreasing more → IsDistinct eqb positions
    → ((i : ℕ) → is_among positions i ≡ is_gathered k from set duties i)
    → ((i : ℕ) → is_among more i ≡ is_of p duties i) → IsDistinct eqb (positions ++ more)
distinct-more k from p set positions more duties l rises distinct old new =
    IsDistinct-append positions more distinct (distinct_rising more rises) (λ i h.
    new i ∙ neither (λ duty. is_listed k (places_before from set) duty.holder) (λ duty. is_held_by_pairing p duty.holder) (λ duty. not_held k from p set duty.holder l) (slice_get duties i) (sym (old i) ∙ h))

-- if no place is left, all are gathered
listed-all : (k from : ℕ) (set : List ℕ) (holder : Holder) → ((q : ℕ) → from ≤ q → is_among set q ≡ false)
    → is_listed k (places_before from set) holder ≡ is_listed k set holder
listed-all k from set (OfPerson j) none = refl
listed-all k from set (OfPairing q) none =
    is_among-filter (λ r. nat_lt r from) set q
    ∙ elim (cases_lt q from) [
      | inl before ↦ rw (lt-ltb q from before) refl
      | inr on ↦ rw (none q on, le-ltb q from on) refl
    ]

map-same : (f g : Duty → Bool) → ((duty : Duty) → f duty ≡ g duty) → (o : Option Duty)
    → option_map_or f o false ≡ option_map_or g o false
map-same f g e None = refl
map-same f g e (Some duty) = e duty

pub gathered-all : (k from : ℕ) (set : List ℕ) (duties : List Duty) (i : ℕ) → ((q : ℕ) → from ≤ q → is_among set q ≡ false) → is_gathered k from set duties i ≡ option_map_or (λ duty. is_listed k set duty.holder) (slice_get duties i) false
gathered-all k from set duties i none =
    map-same (λ duty. is_listed k (places_before from set) duty.holder) (λ duty. is_listed k set duty.holder)
    (λ duty. listed-all k from set duty.holder none) (slice_get duties i)

fixed_listed : (k : ℕ) (set : List ℕ) (holder : Holder)
    → is_held_by_person k holder ≡ is_listed k (places_before 0 set) holder
fixed_listed k set (OfPerson j) = refl
fixed_listed k set (OfPairing q) =
    sym (is_among-filter (λ r. nat_lt r 0) set q ∙ rw (le-ltb q 0 (omega arith)) refl)

-- before the first pairing, the fixed duties are gathered
pub gathered-fixed : (k : ℕ) (set positions : List ℕ) (duties : List Duty) → ((i : ℕ) → is_among positions i ≡ option_map_or (λ duty. is_held_by_person k duty.holder) (slice_get duties i) false) → (i : ℕ) → is_among positions i ≡ is_gathered k 0 set duties i
gathered-fixed k set positions duties fixed i =
    fixed i ∙ map-same (λ duty. is_held_by_person k duty.holder) (λ duty. is_listed k (places_before 0 set) duty.holder) (λ duty. fixed_listed k set duty.holder) (slice_get duties i)

-- ---- the positions in order

some_duty : (f : Duty → Bool) (duties : List Duty) (i : ℕ) → option_map_or f (slice_get duties i) false ≡ true
    → i < length duties
some_duty f duties i h =
    elim (cases_lt i (length duties)) [
      | inl inside ↦ inside
      | inr past ↦ absurd (both_ways _ (ap (λ (o : Option Duty). option_map_or f o false) (slice_get_past duties i past)) h)
    ]

pub positions_within : (test : Duty → Bool) (positions : List ℕ) (duties : List Duty)
    → ((i : ℕ) → is_among positions i ≡ option_map_or test (slice_get duties i) false)
    → All (λ i. i < length duties) positions
positions_within test positions duties members =
    All-from_is_among (λ i. i < length duties) positions
    (λ i h. some_duty test duties i (sym (members i) ∙ h))

-- the positions once they are sorted
pub members-sorted : (test : Duty → Bool) (positions sorted : List ℕ) (all duties : List Duty)
    → IsPermutation positions sorted
    → ((i : ℕ) → is_among positions i ≡ option_map_or test (slice_get all i) false) → duties ≡ all → (i : ℕ)
    → is_among sorted i ≡ option_map_or test (slice_get duties i) false
members-sorted test positions sorted all duties same members here i =
    is_among-IsPermutation positions sorted i same ∙ members i
    ∙ ap (λ (ds : List Duty). option_map_or test (slice_get ds i) false) (sym here)
