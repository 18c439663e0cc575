-- The recovery rule over a part of a duty list.
use Rattle.std.proofs.Common.{◌≡◌, ℕ, suc, zero, ◌+◌, ◌-◌, ◌<◌, ◌≤◌, Bool, true, false, cond, leb-true, List, [], ◌∷◌, length, get_or, Some, refl, sym, subst, inl, inr, arith}
use Rattle.std.specs.Prelude.{filter, slice_get}
use Rattle.std.specs.List.{count_by}
use Rattle.std.proofs.lemmas.Bool.{cases_lt, false≢true, le-leb}
use Rattle.std.proofs.lemmas.List.Sums.{sum_by-cons}
use Rattle.std.proofs.lemmas.Option.{none-some, slice_get_within, slice_get-get_or}
use Rattle.roster_model.proofs.OrderLemmas.{reports-later}
use Rattle.roster_model.specs.Calendar.{Days, common}
use Rattle.roster_model.specs.declared.profile.TheConstants.{NIGHT_REST}
use Rattle.roster_model.specs.records.Duty.{Duty}
use Rattle.roster_model.specs.Rules.Overlap.{NoOverlap}
use Rattle.roster_model.specs.Rules.Recovery.{HasRestAfter, IsRecurrent, KeepsRecovery, holds_night, nights}
use Rattle.roster_problem.specs.Duties.{AreTimed, IsInOrder}
use Rattle.roster_legal.proofs.Apart.{releases-later}

-- ---- a longer time holds the nights of a shorter one

common-wider : (from to from2 to2 ten eight : ℕ) → from2 ≤ from → to ≤ to2
    → common from to ten eight ≤ common from2 to2 ten eight
common-wider from to from2 to2 ten eight begins ends = omega arith

night-wider : (days : Days) (from to from2 to2 i : ℕ) → from2 ≤ from → to ≤ to2
    → holds_night days from to i ≡ true → holds_night days from2 to2 i ≡ true
night-wider days from to from2 to2 i begins ends held =
    let ten = get_or days.ten i 0 in
    let eight = get_or days.eight (i + 1) 0 in
    let enough : NIGHT_REST ≤ common from to ten eight =
    leb-true NIGHT_REST (common from to ten eight) held in
    let more = common-wider from to from2 to2 ten eight begins ends in
    le-leb NIGHT_REST (common from2 to2 ten eight) (omega (arith, enough, more))

one-wider : (p q : Bool) → (p ≡ true → q ≡ true) → cond p 1 0 ≤ cond q 1 0
one-wider true true more = omega arith
one-wider true false more = absurd (false≢true (more refl))
one-wider false true more = omega arith
one-wider false false more = omega arith

count-wider : (p q : ℕ → Bool) → ((i : ℕ) → p i ≡ true → q i ≡ true) → (is : List ℕ)
    → count_by p is ≤ count_by q is
count-wider p q more [] = omega arith
count-wider p q more (i ∷ is) =
    omega (arith, sum_by-cons (λ k. cond (p k) 1 0) i is, sum_by-cons (λ k. cond (q k) 1 0) i is, one-wider (p i) (q i) (more i), count-wider p q more is)

recurrent-wider : (days : Days) (from to from2 to2 : ℕ) → from2 ≤ from → to ≤ to2 → IsRecurrent days from to
    → IsRecurrent days from2 to2
recurrent-wider days from to from2 to2 begins ends rest = record {
  long = let long = rest.long in omega arith;
  nights =
      let more =
      count-wider (holds_night days from to) (holds_night days from2 to2)
      (λ i. night-wider days from to from2 to2 i begins ends) (nights days) in
      omega (arith, rest.nights, more);
}

-- ---- where in a list the i-th of those kept stands

abbrev next_place : Bool → ℕ → (ℕ → ℕ) → ℕ
next_place true zero rest = 0
next_place true (suc i) rest = suc (rest i)
next_place false i rest = suc (rest i)

abbrev place : (Duty → Bool) → List Duty → ℕ → ℕ
place test [] i = 0
place test (x ∷ list) i = next_place (test x) i (place test list)

at_next : (kept : Bool) (x a : Duty) (list rest : List Duty) (places : ℕ → ℕ) (i : ℕ)
    → ((j : ℕ) → slice_get rest j ≡ Some a → slice_get list (places j) ≡ Some a)
    → slice_get (cond kept (x ∷ rest) rest) i ≡ Some a
    → slice_get (x ∷ list) (next_place kept i places) ≡ Some a
at_next true x a list rest places zero later here = here
at_next true x a list rest places (suc i) later here = later i here
at_next false x a list rest places i later here = later i here

kept_at : (test : Duty → Bool) (list : List Duty) (i : ℕ) (a : Duty) → slice_get (filter test list) i ≡ Some a
    → slice_get list (place test list i) ≡ Some a
kept_at test [] i a here = absurd (none-some a here)
kept_at test (x ∷ list) i a here =
    at_next (test x) x a list (filter test list) (place test list) i (λ j. kept_at test list j a) here

next-rises : (kept : Bool) (places : ℕ → ℕ) (i j : ℕ) → ((k l : ℕ) → k ≤ l → places k ≤ places l) → i ≤ j
    → next_place kept i places ≤ next_place kept j places
next-rises true places zero j rest order = omega arith
next-rises true places (suc i) zero rest order = absurd (omega arith)
next-rises true places (suc i) (suc j) rest order = let later = rest i j (omega arith) in omega arith
next-rises false places i j rest order = let later = rest i j order in omega arith

place-rises : (test : Duty → Bool) (list : List Duty) (i j : ℕ) → i ≤ j
    → place test list i ≤ place test list j
place-rises test [] i j order = omega arith
place-rises test (x ∷ list) i j order =
    next-rises (test x) (place test list) i j (place-rises test list) order

-- ---- recurrent rests

-- Where a recurrent rest lies between two kept duties in the list, one does where the others are left
-- out.
rest-kept : (days : Days) (test : Duty → Bool) (list : List Duty) → IsInOrder list → AreTimed list
    → NoOverlap list → (k m : ℕ) (c d : Duty) → slice_get (filter test list) k ≡ Some c
    → slice_get (filter test list) (k + 1) ≡ Some d → place test list k ≤ m → m < place test list (k + 1)
    → HasRestAfter days list m → HasRestAfter days (filter test list) k
rest-kept days test list ordered timed apart k m c d first second from before rest =
    let c_at = kept_at test list k c first in
    let d_at = kept_at test list (k + 1) d second in
    record {
      last = c;
      next = d;
      before = first;
      after = second;
      recurrent = recurrent-wider days rest.last.release rest.next.report c.release d.report
          (releases-later list ordered timed apart (place test list k) m c rest.last from c_at rest.before)
          (reports-later list ordered (m + 1) (place test list (k + 1)) rest.next d (omega arith) rest.after d_at)
          rest.recurrent;
    }

-- Where none lies between kept duties once the others are left out, none does in the list.
none-between : (days : Days) (test : Duty → Bool) (list : List Duty) → IsInOrder list → AreTimed list
    → NoOverlap list → (i n : ℕ) → i + n < length (filter test list)
    → ((k : ℕ) → i ≤ k → k < i + n → ¬ HasRestAfter days (filter test list) k) → (m : ℕ)
    → place test list i ≤ m → m < place test list (i + n) → ¬ HasRestAfter days list m
none-between days test list ordered timed apart i zero within none m from before =
    let same : i + 0 ≡ i = omega arith in
    let past : m < place test list i = subst (λ k. m < place test list k) same before in
    absurd (omega arith)
none-between days test list ordered timed apart i (suc n) within none m from before =
    elim (cases_lt m (place test list (i + n))) [
      | inl earlier ↦
          none-between days test list ordered timed apart i n (omega arith)
          (λ k first last. none k first (omega arith)) m from earlier
      | inr last ↦ λ rest.
          let next : i + suc n ≡ i + n + 1 = omega arith in
          let kept = filter test list in
          let here = slice_get-get_or kept (i + n) rest.last (omega arith) in
          let after = slice_get-get_or kept (i + n + 1) rest.last (omega arith) in
          let past = subst (λ k. m < place test list k) next before in
          none (i + n) (omega arith) (omega arith)
          (rest-kept days test list ordered timed apart (i + n) m _ _ here after last past rest)
    ]

pub KeepsRecovery-filter : (days : Days) (test : Duty → Bool) (list : List Duty) → IsInOrder list
    → AreTimed list → NoOverlap list → KeepsRecovery days list → KeepsRecovery days (filter test list)
KeepsRecovery-filter days test list ordered timed apart keeps i j a b order first second none late =
    let there : i + (j - i) ≡ j = omega arith in
    let inside : j < length (filter test list) = slice_get_within (filter test list) j b second in
    keeps (place test list i) (place test list j) a b (place-rises test list i j order)
    (kept_at test list i a first) (kept_at test list j b second)
    (λ m from before.
    none-between days test list ordered timed apart i (j - i) (omega arith)
    (λ k first last. none k first (omega arith)) m from
    (subst (λ k. m < place test list k) (sym there) before))
    late
