-- What is said of each person is one list, and there can't be none, where it is so of one person.
use Rattle.std.proofs.Common.{◌≡◌, ℕ, zero, suc, ◌+◌, List, [], ◌∷◌, length, Option, Some, None, refl, sym, ap, ◌∙◌, subst, arith}
use Rattle.std.specs.Prelude.{slice_get}
use Rattle.std.proofs.lemmas.List.{same_lists}
use Rattle.std.proofs.lemmas.Option.{none-some, same_Some, slice_get-get_or}
use Rattle.roster_model.specs.Problem.{Problem}
use Rattle.roster_model.specs.Places.{set_of}
use Rattle.roster_model.specs.Rosters.{AreVerdicts, IsVerdictIn}
use Rattle.roster_model.specs.Rules.{AreLocks, AreOfEach, IsLock, IsVerdict, Rule}
use Rattle.roster_legal.proofs.FirstBroken.{IsFirstBroken-one, has_first_broken}

-- what may be said of the person at a place
abbrev Saying : Type 1
Saying = ℕ → Option Rule → Type 0

AreOfEach-one : (Says : Saying) → ((k : ℕ) (a b : Option Rule) → Says k a → Says k b → a ≡ b)
    → (problem : Problem) (a b : List (Option Rule)) → AreOfEach Says problem a → AreOfEach Says problem b
    → a ≡ b
AreOfEach-one Says one problem a b first second =
    let long : length a ≡ length b = first.covers ∙ sym second.covers in
    same_lists a b long (λ k d inside.
    one k _ _ (first.each k _ (slice_get-get_or a k d inside))
    (second.each k _ (slice_get-get_or b k d (omega arith))))

-- what is said of the persons from place k on
abbrev SaidFrom : Saying → ℕ → List (Option Rule) → Type 0
SaidFrom Says k rules = (j : ℕ) (rule : Option Rule) → slice_get rules j ≡ Some rule → Says (k + j) rule

one_more : (Says : Saying) (k : ℕ) (first : Option Rule) (rules : List (Option Rule)) → Says k first
    → SaidFrom Says (k + 1) rules → SaidFrom Says k (first ∷ rules)
one_more Says k first rules here later zero rule at =
    let place : k ≡ k + 0 = omega arith in
    subst (λ i. Says i rule) place (subst (Says k) (same_Some first rule at) here)
one_more Says k first rules here later (suc j) rule at =
    let place : k + 1 + j ≡ k + suc j = omega arith in
    subst (λ i. Says i rule) place (later j rule at)

said_from : (Says : Saying) → ((k : ℕ) → ¬ ¬ ((rule : Option Rule) × Says k rule)) → (n k : ℕ)
    → ¬ ¬ ((rules : List (Option Rule)) × (length rules ≡ n) × SaidFrom Says k rules)
said_from Says some zero k none = none ([], refl, λ j rule at. absurd (none-some rule at))
said_from Says some (suc n) k none =
    some k (λ first.
    said_from Says some n (k + 1) (λ rest.
    none (first.0 ∷ rest.0, ap suc rest.1, one_more Says k first.0 rest.0 first.1 rest.2)))

AreOfEach-exist : (Says : Saying) → ((k : ℕ) → ¬ ¬ ((rule : Option Rule) × Says k rule)) → (problem : Problem)
    → ¬ ¬ ((rules : List (Option Rule)) × AreOfEach Says problem rules)
AreOfEach-exist Says some problem none =
    said_from Says some (length problem.persons) 0 (λ found. none (
      found.0,
      record {
        covers = found.1;
        each = λ k rule at.
            let place : 0 + k ≡ k = omega arith in
            subst (λ i. Says i rule) place (found.2 k rule at);
      },
    ))

-- ---- what locks each person

pub AreLocks-one : (problem : Problem) (a b : List (Option Rule)) → AreLocks problem a → AreLocks problem b
    → a ≡ b
AreLocks-one problem = AreOfEach-one (IsLock problem) (λ k. IsFirstBroken-one problem k []) problem

pub AreLocks-exist : (problem : Problem) → ¬ ¬ ((locks : List (Option Rule)) × AreLocks problem locks)
AreLocks-exist problem = AreOfEach-exist (IsLock problem) (λ k. has_first_broken problem k []) problem

-- ---- what each person breaks

IsVerdict-one : (problem : Problem) (k : ℕ) (set : List ℕ) (a b : Option Rule) → IsVerdict problem k set a
    → IsVerdict problem k set b → a ≡ b
IsVerdict-one problem k [] a b first second = first ∙ sym second
IsVerdict-one problem k (p ∷ set) a b first second = IsFirstBroken-one problem k (p ∷ set) a b first second

has_verdict : (problem : Problem) (k : ℕ) (set : List ℕ)
    → ¬ ¬ ((verdict : Option Rule) × IsVerdict problem k set verdict)
has_verdict problem k [] none = none (None, refl)
has_verdict problem k (p ∷ set) none = has_first_broken problem k (p ∷ set) none

pub AreVerdicts-one : (problem : Problem) (places : List ℕ) (a b : List (Option Rule))
    → AreVerdicts problem places a → AreVerdicts problem places b → a ≡ b
AreVerdicts-one problem places =
    AreOfEach-one (IsVerdictIn problem places) (λ k. IsVerdict-one problem k (set_of k places)) problem

pub AreVerdicts-exist : (problem : Problem) (places : List ℕ)
    → ¬ ¬ ((verdicts : List (Option Rule)) × AreVerdicts problem places verdicts)
AreVerdicts-exist problem places =
    AreOfEach-exist (IsVerdictIn problem places) (λ k. has_verdict problem k (set_of k places)) problem
