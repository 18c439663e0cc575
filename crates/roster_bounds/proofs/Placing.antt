-- Which of the chosen lines has a pairing.
use Rattle.std.proofs.Common.{◌≡◌, ℕ, zero, suc, ◌+◌, ◌<◌, ◌≤◌, Bool, true, false, cond, ltb, ◌||◌, ◌⊎◌, List, [], ◌∷◌, ◌++◌, length, drop, get_or, Some, ℤ, ◌+ℤ◌, refl, sym, ap, ◌∙◌, subst, inl, inr, arith}
use Rattle.std.specs.Prelude.{slice_get}
use Rattle.std.proofs.lemmas.Bool.{cases_Bool, cases_lt, lt-ltb, le-ltb, ltb-true}
use Rattle.std.proofs.lemmas.Int.{ints}
use Rattle.std.proofs.lemmas.List.{drop_more, length-append}
use Rattle.std.proofs.lemmas.Option.{same_Some, slice_get_within}
use Rattle.roster_model.specs.Rules.{is_among}
use Rattle.roster_lines_table.specs.Entries.{Entry}
use Rattle.roster_lines_table.specs.Person.{lines_at}
use Rattle.roster_bounds.specs.Amounts.{AreReduced}
use Rattle.roster_bounds.specs.Chosen.{line_set, is_placed, placing_person, reduced_at, reduced_costs, AreApart, IsNode, Meets, PricedTable}

-- ---- the person whose line has a pairing

pub placing_most : (table : List (List Entry)) (k : ℕ) (lines : List ℕ) (p : ℕ)
    → placing_person table k lines p ≤ k + length lines
placing_most table k [] p = omega arith
placing_most table k (i ∷ lines) p =
    let later = placing_most table (k + 1) lines p in
    elim (cases_Bool (is_among (line_set table k i) p)) [
      | inl member ↦ rw member (omega arith)
      | inr other ↦ rw other (omega (arith, later))
    ]

-- if a line has the pairing, it isn't a later person
pub placing_before : (table : List (List Entry)) (k : ℕ) (lines : List ℕ) (p j i at : ℕ)
    → slice_get lines j ≡ Some i → at ≡ k + j → is_among (line_set table at i) p ≡ true
    → placing_person table k lines p ≤ at
placing_before table k [] p j i at found is member = absurd (omega (arith, slice_get_within [] j i found))
placing_before table k (h ∷ lines) p zero i at found is member =
    let here : at ≡ k = omega arith in
    let same : h ≡ i = same_Some h i found in
    let there : is_among (line_set table k h) p ≡ true =
    subst (λ n. is_among (line_set table n h) p ≡ true) here
    (subst (λ n. is_among (line_set table at n) p ≡ true) (sym same) member) in
    rw there (omega arith)
placing_before table k (h ∷ lines) p (suc j) i at found is member =
    let later = placing_before table (k + 1) lines p j i at found (omega arith) member in
    elim (cases_Bool (is_among (line_set table k h) p)) [
      | inl here ↦ rw here (omega arith)
      | inr other ↦ rw other later
    ]

-- a person below the next one has a line with the pairing
pub placing_has : (table : List (List Entry)) (k : ℕ) (lines : List ℕ) (p : ℕ)
    → placing_person table k lines p < k + length lines
    → (j : ℕ) × (i : ℕ) × (slice_get lines j ≡ Some i) × (placing_person table k lines p ≡ k + j) × (is_among (line_set table (k + j) i) p ≡ true)
placing_has table k [] p less = absurd (omega arith)
placing_has table k (i ∷ lines) p less =
    elim (cases_Bool (is_among (line_set table k i) p)) [
      | inl member ↦
          let here : k ≡ k + 0 = omega arith in
          (0, i, refl, rw member here, subst (λ n. is_among (line_set table n i) p ≡ true) here member)
      | inr other ↦
          let same : placing_person table k (i ∷ lines) p ≡ placing_person table (k + 1) lines p =
          rw other refl in
          let found = placing_has table (k + 1) lines p (omega (arith, same)) in
          let there : k + 1 + found.0 ≡ k + suc found.0 = omega arith in
          (suc found.0, found.1, found.2, same ∙ found.3 ∙ there, subst (λ n. is_among (line_set table n found.1) p ≡ true) there found.4)
    ]

-- the first of the lines that are left
pub placing_next : (table : List (List Entry)) (lines : List ℕ) (p k i : ℕ) → k < length lines
    → i ≡ get_or lines k 0
    → placing_person table k (drop k lines) p ≡ cond (is_among (line_set table k i) p) k (placing_person table (k + 1) (drop (k + 1) lines) p)
placing_next table lines p k i inside is =
    ap (λ xs. placing_person table k xs p) (drop_more lines k 0 inside)
    ∙ ap (λ n. cond (is_among (line_set table k n) p) k (placing_person table (k + 1) (drop (k + 1) lines) p)) (sym is)

-- ---- whether a line has it

pub placed_from : (table : List (List Entry)) (lines : List ℕ) (p j i : ℕ) → slice_get lines j ≡ Some i
    → is_among (line_set table j i) p ≡ true → is_placed table lines p ≡ true
placed_from table lines p j i found member =
    let before = placing_before table 0 lines p j i j found (omega arith) member in
    lt-ltb (placing_person table 0 lines p) (length lines)
    (omega (arith, before, slice_get_within lines j i found))

pub placed_has : (table : List (List Entry)) (lines : List ℕ) (p : ℕ) → is_placed table lines p ≡ true
    → (j : ℕ) × (i : ℕ) × (slice_get lines j ≡ Some i) × (placing_person table 0 lines p ≡ j) × (is_among (line_set table j i) p ≡ true)
placed_has table lines p placed =
    let less = ltb-true (placing_person table 0 lines p) (length lines) placed in
    let found = placing_has table 0 lines p (omega (arith, less)) in
    let here : 0 + found.0 ≡ found.0 = omega arith in
    (found.0, found.1, found.2, found.3 ∙ here, subst (λ n. is_among (line_set table n found.1) p ≡ true) here found.4)

-- ---- one line more

placing-append : (table : List (List Entry)) (k : ℕ) (lines : List ℕ) (i p last : ℕ) → last ≡ k + length lines
    → placing_person table k (lines ++ i ∷ []) p ≡ cond (ltb (placing_person table k lines p) last) (placing_person table k lines p) (cond (is_among (line_set table last i) p) last (last + 1))
placing-append table k [] i p last is =
    let here : last ≡ k = omega (arith, is) in
    let no : ltb k k ≡ false = le-ltb k k (omega arith) in
    rw (here, no) refl
placing-append table k (h ∷ lines) i p last is =
    elim (cases_Bool (is_among (line_set table k h) p)) [
      | inl member ↦
          let yes : ltb k last ≡ true = lt-ltb k last (omega (arith, is)) in
          rw (member, yes) refl
      | inr other ↦ rw other (placing-append table (k + 1) lines i p last (omega (arith, is)))
    ]

by_test : (b : Bool) (x last n : ℕ) (member : Bool) → n ≡ last + 1
    → ltb (cond b x (cond member last (last + 1))) n ≡ cond b (ltb x n) member
by_test true x last n member is = refl
by_test false x last n true is = lt-ltb last n (omega (arith, is))
by_test false x last n false is = le-ltb (last + 1) n (omega (arith, is))

pub is_placed-append : (table : List (List Entry)) (lines : List ℕ) (i p : ℕ) → is_placed table (lines ++ i ∷ []) p ≡ (is_placed table lines p || is_among (line_set table (length lines) i) p)
is_placed-append table lines i p =
    let last : ℕ = length lines in
    let x : ℕ = placing_person table 0 lines p in
    let long : length (lines ++ i ∷ []) ≡ last + 1 = length-append lines (i ∷ []) in
    let step =
    ap (λ n. ltb n (length (lines ++ i ∷ []))) (placing-append table 0 lines i p last (omega arith))
    ∙ by_test (ltb x last) x last (length (lines ++ i ∷ [])) (is_among (line_set table last i) p) long in
    elim (cases_lt x last) [
      | inl less ↦
          let yes : ltb x last ≡ true = lt-ltb x last less in
          let also : ltb x (length (lines ++ i ∷ [])) ≡ true = lt-ltb x _ (omega (arith, long)) in
          step ∙ rw (yes, also) refl
      | inr past ↦
          let no : ltb x last ≡ false = le-ltb x last past in
          step ∙ rw no refl
    ]

pub reduced_costs-append : (tables : PricedTable) (k : ℕ) (lines : List ℕ) (i last : ℕ)
    → last ≡ k + length lines
    → reduced_costs tables k (lines ++ i ∷ []) ≡ reduced_costs tables k lines +ℤ reduced_at tables last (line_set tables.table last i)
reduced_costs-append tables k [] i last is =
    let here : last ≡ k = omega (arith, is) in
    let same = ap (λ n. reduced_at tables n (line_set tables.table n i)) here in
    omega (arith, ints, same)
reduced_costs-append tables k (h ∷ lines) i last is =
    let later = reduced_costs-append tables (k + 1) lines i last (omega (arith, is)) in
    omega (arith, ints, later)

-- what stands in a list with one more is in the list, or the last
at_end : (xs : List ℕ) (x k h : ℕ) → slice_get (xs ++ x ∷ []) k ≡ Some h
    → ((k < length xs) × (slice_get xs k ≡ Some h)) ⊎ ((k ≡ length xs) × (h ≡ x))
at_end [] x zero h at = inr (refl, sym (same_Some x h at))
at_end [] x (suc k) h at = absurd (omega (arith, slice_get_within (x ∷ []) (suc k) h at))
at_end (y ∷ xs) x zero h at = inl (omega arith, at)
at_end (y ∷ xs) x (suc k) h at = elim (at_end xs x k h at) [ inl before ↦ inl (omega (arith, before.0), before.1) | inr on ↦ inr (omega (arith, on.0), on.1) ]

not_last : (xs : List ℕ) (x k h : ℕ) → slice_get (xs ++ x ∷ []) k ≡ Some h → k < length xs
    → slice_get xs k ≡ Some h
not_last xs x k h at less = elim (at_end xs x k h at) [ inl before ↦ before.1 | inr on ↦ absurd (omega (arith, on.0)) ]

-- the lines with one more are apart, where it meets none
pub AreApart-append : (tables : PricedTable) (lines : List ℕ) (i : ℕ) → AreApart tables lines
    → length lines < length tables.problem.persons → i < length (lines_at tables.table (length lines))
    → (Meets tables.table lines (line_set tables.table (length lines) i) → ⊥)
    → AreApart tables (lines ++ i ∷ [])
AreApart-append tables lines i are person line free =
    let table = tables.table in
    let last : ℕ = length lines in
    let long : length (lines ++ i ∷ []) ≡ last + 1 = length-append lines (i ∷ []) in
    record {
      persons = omega (arith, long, person);
      numbers = λ k h at. elim (at_end lines i k h at) [
        | inl before ↦ are.numbers k h before.1
        | inr on ↦ subst (λ n. h < length (lines_at table n)) (sym on.0) (subst (λ n. n < length (lines_at table last)) (sym on.1) line)
      ];
      apart = λ j k h g p less first second one other. elim (at_end lines i k g second) [
        | inl before ↦ are.apart j k h g p less (not_last lines i j h first (omega (arith, before.0))) before.1 one other
        | inr on ↦ free (p, placed_from table lines p j h (not_last lines i j h first (omega (arith, on.0))) one, subst (λ n. is_among (line_set table n i) p ≡ true) on.0 (subst (λ n. is_among (line_set table k n) p ≡ true) on.1 other))
      ];
    }

pub IsNode-append : (tables : PricedTable) (lines : List ℕ) (i : ℕ) (placed more : List ℕ) (reduced step sum : ℤ) → IsNode tables lines placed reduced → length lines < length tables.problem.persons → i < length (lines_at tables.table (length lines))
    → (Meets tables.table lines (line_set tables.table (length lines) i) → ⊥)
    → ((p : ℕ) → is_among more p ≡ (is_among placed p || is_among (line_set tables.table (length lines) i) p))
    → step ≡ reduced_at tables (length lines) (line_set tables.table (length lines) i) → AreReduced 1 step
    → sum ≡ reduced +ℤ step → IsNode tables (lines ++ i ∷ []) more sum
IsNode-append tables lines i placed more reduced step sum is person line free has told fits adds = record {
  apart = AreApart-append tables lines i is.apart person line free;
  has = λ p. has p ∙ ap (λ b. b || is_among (line_set tables.table (length lines) i) p) (is.has p) ∙ sym (is_placed-append tables.table lines i p);
  sum =
      adds ∙ ap (λ (z : ℤ). z +ℤ step) is.sum ∙ ap (λ (z : ℤ). reduced_costs tables 0 lines +ℤ z) told
      ∙ sym (reduced_costs-append tables 0 lines i (length lines) (omega arith));
  fits = let long : length (lines ++ i ∷ []) ≡ length lines + 1 = length-append lines (i ∷ []) in record {
    least = omega (arith, ints, long, adds, is.fits.least, fits.least);
    most = omega (arith, ints, long, adds, is.fits.most, fits.most);
  };
}
