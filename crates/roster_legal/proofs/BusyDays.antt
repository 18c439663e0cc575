-- The busy days of a set with one pairing more.
use Rattle.std.proofs.Common.{◌≡◌, ℕ, ◌<◌, max, Bool, true, false, ◌&&◌, ◌||◌, eqb, List, [], ◌∷◌, ◌++◌, refl, sym, ap, ◌∙◌, subst, inl, inr, arith, bit_or}
use Rattle.std.specs.Prelude.{◌↔◌, filter}
use Rattle.std.specs.Int.{bit_at}
use Rattle.std.specs.List.{list_any}
use Rattle.std.proofs.lemmas.Bool.{cases_Bool, cond-true, cond-false}
use Rattle.std.proofs.lemmas.Bool.Decides.{nat_tests}
use Rattle.std.proofs.lemmas.Nat.Bits.{bit_at-lt, bit_at_or}
use Rattle.roster_model.specs.Calendar.{Days}
use Rattle.roster_model.specs.Problem.{Problem, home_of}
use Rattle.roster_model.specs.records.Duty.{Duty, is_held_by_pairing}
use Rattle.roster_model.specs.Rules.{duty_list, is_among, is_listed}
use Rattle.roster_model.specs.Rules.DaysOff.{KeepsDaysOff}
use Rattle.roster_problem.specs.Duties.{is_of_pairing}
use Rattle.roster_restrules.specs.Busy.{AreBusyDays, is_busy, lies_on}
use Rattle.roster_model.proofs.SetLemmas.{rising_from_Ascends}
use Rattle.roster_legal.specs.Stepping.{AreBusyDaysOf, AreDutiesOf, AreRoomsOf, IsStepped, Loaded, Stepped}
use Rattle.roster_legal.proofs.Stepped.{listed-next}

-- a test finds something among what a filter keeps where it does among what passes both
any_kept : {X : Type 0} (test keep : X → Bool) (xs : List X)
    → list_any test (filter keep xs) ≡ list_any (λ x. keep x && test x) xs
any_kept test keep [] = refl
any_kept test keep (x ∷ xs) =
    elim (cases_Bool (keep x)) [
      | inl kept ↦ ap (list_any test) (cond-true (keep x) (x ∷ filter keep xs) (filter keep xs) kept) ∙ ap (λ b. test x || b) (any_kept test keep xs) ∙ ap (λ b. (b && test x) || list_any (λ y. keep y && test y) xs) (sym kept)
      | inr left ↦ ap (list_any test) (cond-false (keep x) (x ∷ filter keep xs) (filter keep xs) left) ∙ any_kept test keep xs ∙ ap (λ b. (b && test x) || list_any (λ y. keep y && test y) xs) (sym left)
    ]

divided : (p q t a b : Bool) → (((p || q) && t) || (a || b)) ≡ (((p && t) || a) || ((q && t) || b))
divided true true true a b = refl
divided true true false a b = refl
divided true false true a b = refl
divided true false false a b = refl
divided false true true true b = refl
divided false true true false b = refl
divided false true false a b = refl
divided false false t a b = refl

any_of_both : {X : Type 0} (test p q : X → Bool) (xs : List X) → list_any (λ x. (p x || q x) && test x) xs ≡ (list_any (λ x. p x && test x) xs || list_any (λ x. q x && test x) xs)
any_of_both test p q [] = refl
any_of_both test p q (x ∷ xs) =
    ap (λ b. ((p x || q x) && test x) || b) (any_of_both test p q xs)
    ∙ divided (p x) (q x) (test x) (list_any (λ y. p y && test y) xs) (list_any (λ y. q y && test y) xs)

any_same : {X : Type 0} (p q : X → Bool) → ((x : X) → p x ≡ q x) → (xs : List X)
    → list_any p xs ≡ list_any q xs
any_same p q same [] = refl
any_same p q same (x ∷ xs) = ap (λ b. b || list_any p xs) (same x) ∙ ap (λ b. q x || b) (any_same p q same xs)

-- what is found on the list with one pairing more is found on the list before, or among its duties
any-one_more : (test : Duty → Bool) (problem : Problem) (k p : ℕ) (set : List ℕ)
    → list_any test (duty_list problem k (set ++ p ∷ [])) ≡ (list_any test (duty_list problem k set) || list_any test (filter (is_of_pairing p) problem.duties))
any-one_more test problem k p set =
    let old : Duty → Bool = λ duty. is_listed k set duty.holder in
    let new : Duty → Bool = λ duty. is_held_by_pairing p duty.holder in
    any_kept test (λ duty. is_listed k (set ++ p ∷ []) duty.holder) problem.duties
    ∙ any_same (λ duty. is_listed k (set ++ p ∷ []) duty.holder && test duty) (λ duty. (old duty || new duty) && test duty) (λ duty. ap (λ b. b && test duty) (listed-next k p set duty.holder)) problem.duties
    ∙ any_of_both test old new problem.duties
    ∙ ap (λ b. b || list_any (λ duty. new duty && test duty) problem.duties) (sym (any_kept test old problem.duties))
    ∙ ap (λ b. list_any test (duty_list problem k set) || b) (sym (any_kept test new problem.duties))

greatest_bit : (a b : ℕ) → a < 2 → b < 2 → eqb (max a b) 1 ≡ (eqb a 1 || eqb b 1)
greatest_bit a b first second = grind (arith, nat_tests)

bit_of_both : (a b i : ℕ) → eqb (bit_at (bit_or a b) i) 1 ≡ (eqb (bit_at a i) 1 || eqb (bit_at b i) 1)
bit_of_both a b i =
    ap (λ n. eqb n 1) (bit_at_or a b i)
    ∙ greatest_bit (bit_at a i) (bit_at b i) (bit_at-lt a i) (bit_at-lt b i)

busy-next : (problem : Problem) (k p : ℕ) (set : List ℕ) (old more : ℕ) → AreBusyDaysOf problem k set old
    → AreBusyDays (home_of problem k).days (filter (is_of_pairing p) problem.duties) more
    → AreBusyDaysOf problem k (set ++ p ∷ []) (bit_or old more)
busy-next problem k p set old more are brought i inside =
    let days = (home_of problem k).days in
    bit_of_both old more i
    ∙ ap (λ b. b || eqb (bit_at more i) 1) (are i inside)
    ∙ ap (λ b. is_busy days (duty_list problem k set) i || b) (brought i inside)
    ∙ sym (any-one_more (lies_on days i) problem k p set)

-- what a set's pairings and one more make busy, by the loads that the set is judged by
pub busy-stepped : (loads : Loaded) (judged : Stepped) (p depth busy more : ℕ) (positions rooms : List ℕ)
    → loads ≡ judged.loads
    → IsStepped judged.loads judged.set depth positions rooms busy
    → (is_among loads.among p ≡ true → AreBusyDays (home_of loads.problem loads.person).days (filter (is_of_pairing p) loads.problem.duties) more)
    → is_among judged.loads.among p ≡ true
    → AreBusyDaysOf judged.loads.problem judged.loads.person (judged.set ++ p ∷ []) (bit_or busy more)
busy-stepped loads judged p depth busy more positions rooms same known brought alone =
    let is = subst (λ (l : Loaded). AreBusyDays (home_of l.problem l.person).days (filter (is_of_pairing p) l.problem.duties) more) same
    (brought (ap (λ (l : Loaded). is_among l.among p) same ∙ alone)) in
    busy-next judged.loads.problem judged.loads.person p judged.set busy more known.busy is

-- whether a word leaves days off to a person is told by the days of the person's home
pub off-at_home : (loads judged : Loaded) (problem : Problem) (k : ℕ) (days : Days) (busy : ℕ) (says : Type 0)
    → loads ≡ judged → problem ≡ loads.problem → k ≡ loads.person → days ≡ (home_of problem k).days
    → ((list : List Duty) → AreBusyDays days list busy → (says ↔ KeepsDaysOff days list))
    → (list : List Duty) → AreBusyDays (home_of judged.problem judged.person).days list busy
    → (says ↔ KeepsDaysOff (home_of judged.problem judged.person).days list)
off-at_home loads judged problem k days busy says same is_problem is_person at decides =
    let home =
    at ∙ ap (λ (m : Problem). (home_of m k).days) is_problem
    ∙ ap (λ (j : ℕ). (home_of loads.problem j).days) is_person
    ∙ ap (λ (l : Loaded). (home_of l.problem l.person).days) same in
    subst
    (λ (d : Days). (list : List Duty) → AreBusyDays d list busy → (says ↔ KeepsDaysOff d list)) home decides

-- the empty set, with what is known of it
pub stepped-empty : (loads : Loaded) (problem : Problem) (k : ℕ) (days : Days) (list : List Duty) (positions rooms : List ℕ) (busy : ℕ) → problem ≡ loads.problem → k ≡ loads.person → days ≡ (home_of problem k).days → list ≡ duty_list problem k []
    → AreDutiesOf loads.problem loads.person [] positions → AreRoomsOf problem k [] rooms
    → AreBusyDays days list busy → IsStepped loads [] 0 positions rooms busy
stepped-empty loads problem k days list positions rooms busy is_problem is_person home fixed duties left are =
    let here =
    subst (λ (d : Days). AreBusyDays d (duty_list problem k []) busy) home
    (subst (λ (l : List Duty). AreBusyDays days l busy) fixed are) in
    record {
      ascending = rising_from_Ascends [] tt;
      legal = inl refl;
      depth = refl;
      duties = duties;
      rooms =
          subst (λ (j : ℕ). AreRoomsOf loads.problem j [] rooms) is_person
          (subst (λ (m : Problem). AreRoomsOf m k [] rooms) is_problem left);
      busy =
          subst (λ (j : ℕ). AreBusyDaysOf loads.problem j [] busy) is_person
          (subst (λ (m : Problem). AreBusyDaysOf m k [] busy) is_problem here);
    }
