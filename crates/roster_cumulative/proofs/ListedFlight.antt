-- The flight of duty lists, by which of a problem's duties they hold.
use Rattle.std.proofs.Common.{◌≡◌, ℕ, zero, suc, ◌+◌, ◌*◌, ◌≤◌, Bool, true, false, ◌||◌, cond, eqb, List, [], ◌∷◌, ◌++◌, length, get_or, Option, Some, None, refl, sym, ap, ◌∙◌, subst, inl, inr, arith}
use Rattle.std.specs.Prelude.{All, filter, slice_get}
use Rattle.std.specs.List.{range_with_len, sum_by}
use Rattle.std.specs.List.Sorted.{IsStrictlyIncreasing}
use Rattle.std.specs.Option.{option_map_or}
use Rattle.std.proofs.Math.Bool.{or-true}
use Rattle.std.proofs.lemmas.List.Elements.{filter_agree}
use Rattle.std.proofs.lemmas.Bool.{both_ways, cases_Bool, eqb-true, false_from_ne_true}
use Rattle.std.proofs.lemmas.Bool.Decides.{nat_tests}
use Rattle.std.proofs.lemmas.List.Sums.{sum_by-cons, sum_by-le, sum_by-le-sum_by}
use Rattle.roster_model.proofs.PlacesLemmas.{is_among-set_of}
use Rattle.roster_model.proofs.SetLemmas.{Ascends, Ascends-from_rising, is_among-append, is_among-before}
use Rattle.roster_model.specs.declared.limits.TheConstants.{MOST_MONTH_MINUTES}
use Rattle.roster_model.specs.Calendar.{Days, IsTable}
use Rattle.roster_model.specs.Problem.{Problem}
use Rattle.roster_model.specs.Places.{set_of}
use Rattle.roster_model.specs.Rules.{duty_list, is_among, is_listed}
use Rattle.roster_model.specs.Sums.{duty_flight, month_flight}
use Rattle.roster_model.specs.records.Duty.{Duty, Holder, OfPairing, OfPerson, is_held_by_pairing, is_held_by_person}
use Rattle.roster_problem.specs.Duties.{AreFlown, is_of_pairing, is_of_person}
use Rattle.roster_cumulative.proofs.Divided.{duty_flight-short}
use Rattle.roster_cumulative.proofs.MonthFlight.{month_flight-sum, sum_of_sums}

-- ---- of those that pass a test

sum_by-cond : {X : Type 0} (f : X → ℕ) (passes : Bool) (x : X) (rest : List X)
    → sum_by f (cond passes (x ∷ rest) rest) ≡ cond passes (f x) 0 + sum_by f rest
sum_by-cond f true x rest = sum_by-cons f x rest
sum_by-cond f false x rest = omega arith

sum_by-filter : {X : Type 0} (f : X → ℕ) (test : X → Bool) (xs : List X)
    → sum_by f (filter test xs) ≡ sum_by (λ x. cond (test x) (f x) 0) xs
sum_by-filter f test [] = refl
sum_by-filter f test (x ∷ xs) =
    omega (arith, sum_by-cond f (test x) x (filter test xs), sum_by-filter f test xs, sum_by-cons (λ y. cond (test y) (f y) 0) x xs)

pub month_flight-listed : (problem : Problem) (days : Days) (k : ℕ) (set : List ℕ)
    → month_flight days (duty_list problem k set) ≡ sum_by (λ duty. cond (is_listed k set duty.holder) (duty_flight days duty) 0) problem.duties
month_flight-listed problem days k set =
    month_flight-sum days (duty_list problem k set)
    ∙ sum_by-filter (duty_flight days) (λ duty. is_listed k set duty.holder) problem.duties

pub month_flight-short : (days : Days) (list : List Duty) → IsTable days → AreFlown list
    → month_flight days list ≤ length list * MOST_MONTH_MINUTES
month_flight-short days list table are =
    let each : All (λ duty. duty_flight days duty ≤ MOST_MONTH_MINUTES) list =
    λ i d inside. duty_flight-short days (get_or list i d) table (are i d inside) in
    omega (arith, month_flight-sum days list, sum_by-le (duty_flight days) MOST_MONTH_MINUTES list each)

-- ---- of one pairing more

one_of_two : (n : ℕ) (more listed held : Bool) → more ≡ (listed || held) → (listed ≡ true → held ≡ true → ⊥)
    → cond more n 0 ≡ cond listed n 0 + cond held n 0
one_of_two n more true true is apart = absurd (apart refl refl)
one_of_two n more true false is apart = rw is (omega arith)
one_of_two n more false true is apart = rw is (omega arith)
one_of_two n more false false is apart = rw is (omega arith)

sum_by-both : {X : Type 0} (f g h : X → ℕ) → ((x : X) → f x ≡ g x + h x) → (xs : List X)
    → sum_by f xs ≡ sum_by g xs + sum_by h xs
sum_by-both f g h each [] = omega arith
sum_by-both f g h each (x ∷ xs) =
    omega
    (arith, sum_by-cons f x xs, sum_by-cons g x xs, sum_by-cons h x xs, each x, sum_by-both f g h each xs)

or_false : (b : Bool) → b ≡ (b || false)
or_false true = refl
or_false false = refl

same_either_way : (p q : ℕ) → (eqb p q || false) ≡ eqb q p
same_either_way p q = grind (arith, nat_tests)

-- with one pairing more, its duties are listed too
is_listed-more : (k p : ℕ) (set more : List ℕ) (holder : Holder)
    → ((q : ℕ) → is_among more q ≡ (is_among set q || eqb q p))
    → is_listed k more holder ≡ (is_listed k set holder || is_held_by_pairing p holder)
is_listed-more k p set more (OfPairing q) with_p = with_p q
is_listed-more k p set more (OfPerson j) with_p = or_false (eqb j k)

not_both : (k p : ℕ) (set : List ℕ) (holder : Holder) → is_among set p ≡ false → is_listed k set holder ≡ true
    → is_held_by_pairing p holder ≡ true → ⊥
not_both k p set (OfPairing q) new listed held =
    both_ways (is_among set p) new (subst (λ r. is_among set r ≡ true) (eqb-true q p held) listed)
not_both k p set (OfPerson j) new listed held = absurd (cc)

-- what the duties of its list have of anything is what those of the set had, and what its own have
listed-more : (minutes : Duty → ℕ) (problem : Problem) (k p : ℕ) (set more : List ℕ)
    → ((q : ℕ) → is_among more q ≡ (is_among set q || eqb q p)) → is_among set p ≡ false
    → sum_by minutes (duty_list problem k more) ≡ sum_by minutes (duty_list problem k set) + sum_by minutes (filter (is_of_pairing p) problem.duties)
listed-more minutes problem k p set more with_p new =
    let each = λ (duty : Duty). one_of_two (minutes duty) (is_listed k more duty.holder) (is_listed k set duty.holder) (is_of_pairing p duty)
    (is_listed-more k p set more duty.holder with_p) (not_both k p set duty.holder new) in
    omega (
      arith,
      sum_by-filter minutes (λ duty. is_listed k more duty.holder) problem.duties,
      sum_by-filter minutes (λ duty. is_listed k set duty.holder) problem.duties,
      sum_by-filter minutes (is_of_pairing p) problem.duties,
      sum_by-both (λ duty. cond (is_listed k more duty.holder) (minutes duty) 0)
          (λ duty. cond (is_listed k set duty.holder) (minutes duty) 0)
          (λ duty. cond (is_of_pairing p duty) (minutes duty) 0) each problem.duties,
    )

month_flight-more : (problem : Problem) (days : Days) (k p : ℕ) (set more : List ℕ)
    → ((q : ℕ) → is_among more q ≡ (is_among set q || eqb q p)) → is_among set p ≡ false
    → month_flight days (duty_list problem k more) ≡ month_flight days (duty_list problem k set) + month_flight days (filter (is_of_pairing p) problem.duties)
month_flight-more problem days k p set more with_p new =
    omega (
      arith,
      month_flight-sum days (duty_list problem k more),
      month_flight-sum days (duty_list problem k set),
      month_flight-sum days (filter (is_of_pairing p) problem.duties),
      listed-more (duty_flight days) problem k p set more with_p new,
    )

with_one_behind : (set : List ℕ) (p q : ℕ) → is_among (set ++ p ∷ []) q ≡ (is_among set q || eqb q p)
with_one_behind set p q = is_among-append set (p ∷ []) q ∙ ap (λ b. is_among set q || b) (same_either_way p q)

pub listed-one_more : (minutes : Duty → ℕ) (problem : Problem) (k p : ℕ) (set : List ℕ)
    → is_among set p ≡ false
    → sum_by minutes (duty_list problem k (set ++ p ∷ [])) ≡ sum_by minutes (duty_list problem k set) + sum_by minutes (filter (is_of_pairing p) problem.duties)
listed-one_more minutes problem k p set new =
    listed-more minutes problem k p set (set ++ p ∷ []) (with_one_behind set p) new

pub month_flight-one_more : (problem : Problem) (days : Days) (k p : ℕ) (set : List ℕ)
    → is_among set p ≡ false
    → month_flight days (duty_list problem k (set ++ p ∷ [])) ≡ month_flight days (duty_list problem k set) + month_flight days (filter (is_of_pairing p) problem.duties)
month_flight-one_more problem days k p set new =
    month_flight-more problem days k p set (set ++ p ∷ []) (with_one_behind set p) new

-- ---- of a set

before_or_behind : (p q : ℕ) (b : Bool) → (eqb p q || b) ≡ (b || eqb q p)
before_or_behind p q true = or-true (eqb p q)
before_or_behind p q false = same_either_way p q

listed_without : (k : ℕ) (holder : Holder) → is_listed k [] holder ≡ is_held_by_person k holder
listed_without k (OfPairing p) = refl
listed_without k (OfPerson j) = refl

month_flight-ascending : (problem : Problem) (days : Days) (k : ℕ) (set : List ℕ) → Ascends set
    → month_flight days (duty_list problem k set) ≡ month_flight days (filter (is_of_person k) problem.duties) + sum_by (λ p. month_flight days (filter (is_of_pairing p) problem.duties)) set
month_flight-ascending problem days k [] up =
    let fixed = ap (month_flight days) (filter_agree (λ duty. is_listed k [] duty.holder) (is_of_person k) (λ duty. listed_without k duty.holder) problem.duties) in
    omega (arith, fixed)
month_flight-ascending problem days k (p ∷ set) up =
    let more =
    month_flight-more problem days k p set (p ∷ set) (λ q. before_or_behind p q (is_among set q))
    (is_among-before p p set up.0 (omega arith)) in
    omega (arith, more, month_flight-ascending problem days k set up.1, sum_by-cons (λ q. month_flight days (filter (is_of_pairing q) problem.duties)) p set)

pub month_flight-set : (problem : Problem) (days : Days) (k : ℕ) (set : List ℕ) → IsStrictlyIncreasing set
    → month_flight days (duty_list problem k set) ≡ month_flight days (filter (is_of_person k) problem.duties) + sum_by (λ p. month_flight days (filter (is_of_pairing p) problem.duties)) set
month_flight-set problem days k set rises =
    month_flight-ascending problem days k set (Ascends-from_rising set rises)

-- ---- of all persons

-- if no number of a range passes
none_passes : (passes : ℕ → Bool) (minutes : ℕ → ℕ) (first n : ℕ)
    → ((k : ℕ) → first ≤ k → passes k ≡ true → ⊥)
    → sum_by (λ k. cond (passes k) (minutes k) 0) (range_with_len first n) ≡ 0
none_passes passes minutes first zero none = omega arith
none_passes passes minutes first (suc n) none =
    let fails : passes first ≡ false = false_from_ne_true (passes first) (none first (omega arith)) in
    let here : cond (passes first) (minutes first) 0 ≡ 0 = rw fails refl in
    let later = none_passes passes minutes (first + 1) n (λ k past. none k (omega arith)) in
    omega (arith, sum_by-cons (λ k. cond (passes k) (minutes k) 0) first (range_with_len (first + 1) n), here, later)

-- and if one does at most
one_passes : (passes : ℕ → Bool) (minutes : ℕ → ℕ) (most first n : ℕ)
    → ((i j : ℕ) → passes i ≡ true → passes j ≡ true → i ≡ j) → ((k : ℕ) → minutes k ≤ most)
    → sum_by (λ k. cond (passes k) (minutes k) 0) (range_with_len first n) ≤ most
one_passes passes minutes most first zero one few = omega arith
one_passes passes minutes most first (suc n) one few =
    let split = sum_by-cons (λ k. cond (passes k) (minutes k) 0) first (range_with_len (first + 1) n) in
    elim (cases_Bool (passes first)) [
      | inl does ↦
          let here : cond (passes first) (minutes first) 0 ≡ minutes first = rw does refl in
          let later = none_passes passes minutes (first + 1) n (λ k past h. let same : first ≡ k = one first k does h in omega arith) in
          omega (arith, split, here, later, few first)
      | inr fails ↦
          let here : cond (passes first) (minutes first) 0 ≡ 0 = rw fails refl in
          omega (arith, split, here, one_passes passes minutes most (first + 1) n one few)
    ]

one_number : (found : Option ℕ) (i j : ℕ) → option_map_or (λ x. eqb x i) found false ≡ true
    → option_map_or (λ x. eqb x j) found false ≡ true → i ≡ j
one_number None i j first second = absurd (cc)
one_number (Some x) i j first second = sym (eqb-true x i first) ∙ eqb-true x j second

-- a duty is on one person's list at most
one_list : (places : List ℕ) (holder : Holder) (i j : ℕ) → is_listed i (set_of i places) holder ≡ true
    → is_listed j (set_of j places) holder ≡ true → i ≡ j
one_list places (OfPairing p) i j first second =
    one_number (slice_get places p) i j (sym (is_among-set_of i p places) ∙ first)
    (sym (is_among-set_of j p places) ∙ second)
one_list places (OfPerson m) i j first second = sym (eqb-true m i first) ∙ eqb-true m j second

-- So what the lists of the first n persons have is no more than what each duty has at most. What it has
-- may depend on the person.
all_lists : (minutes : ℕ → Duty → ℕ) (most : ℕ) (problem : Problem) (places : List ℕ) (n : ℕ)
    → ((k : ℕ) → All (λ duty. minutes k duty ≤ most) problem.duties)
    → sum_by (λ k. sum_by (minutes k) (duty_list problem k (set_of k places))) (range_with_len 0 n) ≤ length problem.duties * most
all_lists minutes most problem places n few =
    let listed = λ (k : ℕ) (duty : Duty). is_listed k (set_of k places) duty.holder in
    let counted = λ (duty : Duty) (k : ℕ). cond (listed k duty) (minutes k duty) 0 in
    let persons = range_with_len 0 n in
    let by_duty =
    sum_by-le-sum_by (λ k. sum_by (minutes k) (duty_list problem k (set_of k places)))
    (λ k. sum_by (λ duty. counted duty k) problem.duties) persons
    (λ k. omega (arith, sum_by-filter (minutes k) (listed k) problem.duties)) in
    let turned = sum_of_sums counted problem.duties persons in
    let each : All (λ duty. sum_by (counted duty) persons ≤ most) problem.duties = λ i d inside.
    let duty : Duty = get_or problem.duties i d in
    one_passes (λ k. listed k duty) (λ k. minutes k duty) most 0 n (one_list places duty.holder)
    (λ k. few k i d inside) in
    omega (arith, by_duty, turned, sum_by-le (λ duty. sum_by (counted duty) persons) most problem.duties each)

ones : {X : Type 0} (xs : List X) → sum_by (λ x. 1) xs ≡ length xs
ones [] = refl
ones (x ∷ xs) = omega (arith, sum_by-cons (λ y. 1) x xs, ones xs)

-- The lists have no more duties than there are.
pub length-lists : (problem : Problem) (places : List ℕ) (n : ℕ) → sum_by (λ k. length (duty_list problem k (set_of k places))) (range_with_len 0 n) ≤ length problem.duties
length-lists problem places n =
    let once = all_lists (λ k duty. 1) 1 problem places n (λ k i d inside. omega arith) in
    let counted =
    sum_by-le-sum_by (λ k. length (duty_list problem k (set_of k places)))
    (λ k. sum_by (λ duty. 1) (duty_list problem k (set_of k places))) (range_with_len 0 n)
    (λ k. omega (arith, ones (duty_list problem k (set_of k places)))) in
    omega (arith, once, counted)
