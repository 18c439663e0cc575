-- Rosters of some bases, and what two of them are that are united.
use Rattle.std.proofs.Common.{◌≡◌, ℕ, zero, suc, ◌+◌, ◌<◌, ◌≤◌, Bool, true, false, eqb, ◌||◌, List, [], ◌∷◌, length, get_or, replicate, Some, refl, sym, ap, ap₂, ◌∙◌, subst, inl, inr, arith}
use Rattle.std.specs.Prelude.{slice_get}
use Rattle.std.specs.List.{list_any}
use Rattle.std.proofs.lemmas.Bool.{both_ways, cases_Bool, cases_eq, cond-false, false≢true, le-ltb, lt-ltb, ne_eqb, or_parts}
use Rattle.std.proofs.lemmas.Bool.Decides.{nat_tests}
use Rattle.std.proofs.lemmas.Option.{get_or_from_slice_get, same_Some, slice_get_within}
use Rattle.roster_model.specs.declared.limits.TheConstants.{MOST_BASES}
use Rattle.roster_model.specs.Places.{open_number, places_with, set_of}
use Rattle.roster_model.specs.Plans.{all_open}
use Rattle.roster_model.specs.Problem.{Problem}
use Rattle.roster_model.specs.Rosters.{IsLegalRoster}
use Rattle.roster_model.specs.Rules.{is_among}
use Rattle.roster_model.specs.records.Crew.{Person}
use Rattle.roster_model.proofs.PlacesParts.{in_set_of_number, same_places}
use Rattle.roster_model.proofs.RosterLemmas.{all_open_legal}
use Rattle.roster_problem.specs.Sound.{IsSound}
use Rattle.roster_bases.specs.Bases.{base_of_pairing, base_of_person, before, has_crew, only}
use Rattle.roster_bases.specs.Homes.{IsHome}
use Rattle.roster_bases.specs.United.{unite}
use Rattle.roster_bases.proofs.BaseLemmas.{found_at, person_base, same_base}
use Rattle.roster_bases.proofs.Unites.{set_of-unite, set_of-unite_other}

-- ---- some bases

-- two sets of bases that share none, and both together
pub record AreApart (first second both : ℕ → Bool) : Type 0 where
  pub either : (base : ℕ) → both base ≡ (first base || second base)
  pub apart : (base : ℕ) → first base ≡ true → second base ≡ false

pub in_both_first : (first second both : ℕ → Bool) (base : ℕ) → AreApart first second both
    → first base ≡ true → both base ≡ true
in_both_first first second both base are h = are.either base ∙ ap (λ b. b || second base) h

pub in_both_second : (first second both : ℕ → Bool) (base : ℕ) → AreApart first second both
    → second base ≡ true → both base ≡ true
in_both_second first second both base are h =
    elim (cases_Bool (first base)) [
      | inl ours ↦ in_both_first first second both base are ours
      | inr theirs ↦ are.either base ∙ ap₂ (λ b c. b || c) theirs h
    ]

pub in_second : (first second both : ℕ → Bool) (base : ℕ) → AreApart first second both → both base ≡ true
    → first base ≡ false → second base ≡ true
in_second first second both base are h theirs = sym (are.either base ∙ ap (λ b. b || second base) theirs) ∙ h

pub in_neither : (first second both : ℕ → Bool) (base : ℕ) → AreApart first second both → both base ≡ false
    → (first base ≡ false) × (second base ≡ false)
in_neither first second both base are none =
    elim (cases_Bool (first base)) [
      | inl ours ↦ absurd (both_ways _ none (in_both_first first second both base are ours))
      | inr theirs ↦ (theirs, sym (are.either base ∙ ap (λ b. b || second base) theirs) ∙ none)
    ]

pub not_in_first : (first second both : ℕ → Bool) (base : ℕ) → AreApart first second both
    → second base ≡ true → first base ≡ false
not_in_first first second both base are h =
    elim (cases_Bool (first base)) [
      | inl ours ↦ absurd (both_ways _ (are.apart base ours) h)
      | inr theirs ↦ theirs
    ]

-- there is no base before the first
pub none_before : (base : ℕ) → before 0 base ≡ false
none_before base = le-ltb base 0 (omega arith)

-- one base more
pub next_base : (base : ℕ) → AreApart (only base) (before base) (before (base + 1))
next_base base = record {
  either = λ b. grind (arith, nat_tests);
  apart = λ b here. grind (arith, nat_tests);
}

-- everybody is of one of all bases
pub every_base : (problem : Problem) (n k : ℕ) → IsSound problem → n ≡ MOST_BASES → k < length problem.persons
    → before n (base_of_person problem k) ≡ true
every_base problem n k sound all person =
    let who = found_at problem.persons k person in
    let number = person_base problem k who.0 who.1 in
    let home = sound.homes k who.0 person in
    let there : get_or problem.persons k who.0 ≡ who.0 =
    get_or_from_slice_get problem.persons k who.0 who.0 who.1 in
    let low = subst (λ (x : Person). x.base < length problem.bases) there home in
    let few = sound.bases in
    lt-ltb (base_of_person problem k) n (omega (arith, number, all))

-- so each roster is one of all bases
pub every_home : (problem : Problem) (n : ℕ) (places : List ℕ) → IsSound problem → n ≡ MOST_BASES
    → IsHome problem (before n) places
every_home problem n places sound all k person out =
    absurd (both_ways _ out (every_base problem n k sound all person))

-- ---- nobody flies

-- a lesser number has no place among equal ones
nowhere : (k p m n : ℕ) → k < n → places_with k p (replicate m n) ≡ []
nowhere k p zero n less = refl
nowhere k p (suc m) n less =
    cond-false (eqb n k) _ _ (ne_eqb n k (λ e. omega arith)) ∙ nowhere k (p + 1) m n less

pub nobody_flies : (problem : Problem) (k : ℕ) → k < length problem.persons → set_of k (all_open problem) ≡ []
nobody_flies problem k person = nowhere k 0 (length problem.pairings) (length problem.persons) person

pub open_home : (problem : Problem) (bases : ℕ → Bool) → IsHome problem bases (all_open problem)
open_home problem bases k person other = nobody_flies problem k person

-- where nobody flies, all is open
pub all_is_open : (problem : Problem) (bases : ℕ → Bool) (places : List ℕ) → IsLegalRoster problem places
    → IsHome problem bases places
    → ((k : ℕ) → k < length problem.persons → bases (base_of_person problem k) ≡ false)
    → places ≡ all_open problem
all_is_open problem bases places legal home nobody =
    let open_legal = all_open_legal problem in
    same_places (length problem.persons) places (all_open problem) (legal.covers ∙ sym open_legal.covers)
    legal.numbers open_legal.numbers
    (λ k person. home k person (nobody k person) ∙ sym (nobody_flies problem k person))

-- nobody is of a base that has no crew
any_none : {X : Type 0} (test : X → Bool) (xs : List X) (k : ℕ) (x : X) → list_any test xs ≡ false
    → slice_get xs k ≡ Some x → test x ≡ false
any_none test [] k x none at = absurd (omega (arith, slice_get_within [] k x at))
any_none test (y ∷ ys) zero x none at =
    subst (λ z. test z ≡ false) (same_Some y x at) (or_parts (test y) (list_any test ys) none).0
any_none test (y ∷ ys) (suc k) x none at =
    any_none test ys k x (or_parts (test y) (list_any test ys) none).1 at

pub no_crew : (problem : Problem) (base k : ℕ) → has_crew problem base ≡ false
    → k < length problem.persons → only base (base_of_person problem k) ≡ false
no_crew problem base k none person =
    let who = found_at problem.persons k person in
    ap (λ n. eqb n base) (person_base problem k who.0 who.1)
    ∙ any_none (λ (x : Person). eqb x.base base) problem.persons k who.0 none who.1

-- ---- pairings in rosters of some bases

-- who has a pairing is of those bases,
pub flown_at_home : (problem : Problem) (bases : ℕ → Bool) (places : List ℕ) (k p : ℕ)
    → IsHome problem bases places → p < length places → k < length problem.persons → get_or places p 0 ≡ k
    → bases (base_of_person problem k) ≡ true
flown_at_home problem bases places k p home inside person has =
    elim (cases_Bool (bases (base_of_person problem k))) [
      | inl ours ↦ ours
      | inr theirs ↦ absurd (false≢true (subst (λ set. is_among set p ≡ true) (home k person theirs) (in_set_of_number k p places inside has)))
    ]

-- and a pairing of another base is open
pub open_elsewhere : (problem : Problem) (bases : ℕ → Bool) (places : List ℕ) (p : ℕ)
    → IsLegalRoster problem places → IsHome problem bases places → p < length problem.pairings
    → bases (base_of_pairing problem p) ≡ false → get_or places p 0 ≡ open_number problem
open_elsewhere problem bases places p legal home pairing other =
    let inside : p < length places = omega (arith, pairing, legal.covers) in
    let k : ℕ = get_or places p 0 in
    elim (cases_eq k (open_number problem)) [
      | inl nobody ↦ nobody
      | inr flown ↦
          let few : k ≤ length problem.persons = legal.numbers p 0 inside in
          let person : k < length problem.persons = omega (arith, few, flown) in
          let same = same_base problem places k p legal inside person refl in
          absurd (both_ways _ (ap bases (sym same) ∙ other) (flown_at_home problem bases places k p home inside person refl))
    ]

-- ---- united rosters

-- with nothing elsewhere in the second roster there is nothing in both,
pub home_united : (problem : Problem) (bases : ℕ → Bool) (xs ys : List ℕ) → IsLegalRoster problem xs
    → IsLegalRoster problem ys → IsHome problem bases ys → IsHome problem bases (unite problem bases xs ys)
home_united problem bases xs ys first second home k person other =
    set_of-unite_other problem bases xs ys k first second person other ∙ home k person other

-- nor beyond the bases of both
pub home_both : (problem : Problem) (first second both : ℕ → Bool) (xs ys : List ℕ)
    → AreApart first second both → IsLegalRoster problem xs → IsLegalRoster problem ys
    → IsHome problem second ys → IsHome problem both (unite problem first xs ys)
home_both problem first second both xs ys are one two home k person none =
    let out = in_neither first second both (base_of_person problem k) are none in
    set_of-unite_other problem first xs ys k one two person out.0 ∙ home k person out.1

-- without the first bases a roster of both is one of the second
pub home_second : (problem : Problem) (first second both : ℕ → Bool) (xs others : List ℕ)
    → AreApart first second both → IsLegalRoster problem xs → IsLegalRoster problem others
    → IsHome problem second xs → IsHome problem both others
    → IsHome problem second (unite problem first xs others)
home_second problem first second both xs others are one whole none home k person out =
    elim (cases_Bool (first (base_of_person problem k))) [
      | inl ours ↦ set_of-unite problem first xs others k one whole person ours ∙ none k person out
      | inr theirs ↦
          set_of-unite_other problem first xs others k one whole person theirs
          ∙ home k person (are.either (base_of_person problem k) ∙ ap₂ (λ b c. b || c) theirs out)
    ]
