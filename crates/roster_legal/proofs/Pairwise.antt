-- Of a set of which each two pairings are legal together, the rules that speak of one duty or of two
-- hold.
use Rattle.std.proofs.Common.{◌≡◌, ℕ, ◌<◌, Bool, true, eqb, List, [], ◌∷◌, subst, inl, inr, arith}
use Rattle.std.proofs.lemmas.Bool.{cases_order, eqb-true, or_cases, or_right, false≢true}
use Rattle.roster_model.specs.Calendar.{common}
use Rattle.roster_model.specs.Problem.{Problem, home_of, leaves_of}
use Rattle.roster_model.specs.records.Duty.{Duty, Holder, OfPairing, OfPerson}
use Rattle.roster_model.specs.Rules.{Rule, BaseRule, OverlapRule, LeaveRule, RestRule, RecoveryRule, Holds, IsLegal, duty_list, is_among, is_listed, rank_of}
use Rattle.roster_model.specs.Rules.Leave.{IsOffLeave}
use Rattle.roster_model.proofs.SetLemmas.{is_among-here, is_among-from_Contains, Contains-from_is_among}
use Rattle.roster_legal.proofs.Covered.{all-covered, pairs-covered, rests-covered}
use Rattle.roster_legal.proofs.Parts.Rest.{keeps_from, rests_from}

-- a set with a pairing in it is legal where each rule holds
pub holds_of : (problem : Problem) (k p : ℕ) (rest : List ℕ) → IsLegal problem k (p ∷ rest) → (rule : Rule)
    → Holds problem k (p ∷ rest) rule
holds_of problem k p rest (inl none) rule = cc
holds_of problem k p rest (inr holds) rule = holds rule

among_one : (p q : ℕ) → is_among (p ∷ []) q ≡ true → p ≡ q
among_one p q h =
    elim (or_cases _ _ h) [ inl same ↦ eqb-true p q same | inr none ↦ absurd (false≢true none) ]

among_two : (p q r : ℕ) (set : List ℕ) → is_among set p ≡ true → is_among set q ≡ true
    → is_among (p ∷ q ∷ []) r ≡ true → is_among set r ≡ true
among_two p q r set first second h =
    elim (or_cases _ _ h) [
      | inl same ↦ subst (λ s. is_among set s ≡ true) (eqb-true p r same) first
      | inr other ↦ subst (λ s. is_among set s ≡ true) (among_one q r other) second
    ]

-- a part of a set of which each rule holds
pub record LegalPart (problem : Problem) (k : ℕ) (set : List ℕ) : Type 0 where
  pub part : List ℕ
  pub holds : (rule : Rule) → Holds problem k part rule
  pub within : (p : ℕ) → is_among part p ≡ true → is_among set p ≡ true

module _ (problem : Problem) (k : ℕ) (set : List ℕ) (some : ℕ) (has : is_among set some ≡ true) (alone : (p : ℕ) → is_among set p ≡ true → IsLegal problem k (p ∷ [])) (pairs : (p q : ℕ) → p < q → is_among set p ≡ true → is_among set q ≡ true → IsLegal problem k (p ∷ q ∷ [])) where
  abbrev one : (p : ℕ) → is_among set p ≡ true → LegalPart problem k set
  one p h = record {
    part = p ∷ [];
    holds = holds_of problem k p [] (alone p h);
    within = λ q is. subst (λ r. is_among set r ≡ true) (among_one p q is) h;
  }

  abbrev two : (p q : ℕ) → p < q → is_among set p ≡ true → is_among set q ≡ true → LegalPart problem k set
  two p q order first second = record {
    part = p ∷ q ∷ [];
    holds = holds_of problem k p (q ∷ []) (pairs p q order first second);
    within = λ r is. among_two p q r set first second is;
  }

  abbrev listed : LegalPart problem k set → Duty → Bool
  listed part duty = is_listed k part.part duty.holder

  holder_within : (part : LegalPart problem k set) (holder : Holder) → is_listed k part.part holder ≡ true
      → is_listed k set holder ≡ true
  holder_within part (OfPairing p) h = part.within p h
  holder_within part (OfPerson j) h = h

  -- each two duties stand on the list of such a part
  holders : (a b : Holder) → is_listed k set a ≡ true → is_listed k set b ≡ true → (part : LegalPart problem k set) × (is_listed k part.part a ≡ true) × (is_listed k part.part b ≡ true)
  holders (OfPerson i) (OfPerson j) first second = (one some has, first, second)
  holders (OfPerson i) (OfPairing q) first second = (one q second, first, is_among-here q [])
  holders (OfPairing p) (OfPerson j) first second = (one p first, is_among-here p [], second)
  holders (OfPairing p) (OfPairing q) first second =
      elim (cases_order p q) [
        | inl same ↦ (one p first, is_among-here p [], subst (λ r. is_among (p ∷ []) r ≡ true) same (is_among-here p []))
        | inr apart ↦ elim apart [
          | inl before ↦ (two p q before first second, is_among-here p (q ∷ []), or_right (eqb p q) _ (is_among-here q []))
          | inr after ↦ (two q p after second first, or_right (eqb q p) _ (is_among-here p []), is_among-here q (p ∷ []))
        ]
      ]

  both : (a b : Duty) → is_listed k set a.holder ≡ true → is_listed k set b.holder ≡ true
      → (part : LegalPart problem k set) × (listed part a ≡ true) × (listed part b ≡ true)
  both a b first second = holders a.holder b.holder first second

  inside : (part : LegalPart problem k set) (a : Duty) → listed part a ≡ true
      → is_listed k set a.holder ≡ true
  inside part a h = holder_within part a.holder h

  pub pairs-decide : (rule : Rule) → rank_of rule < rank_of RecoveryRule → Holds problem k set rule
  pairs-decide BaseRule before = λ p pairing person h. holds_of problem k p [] (alone p (is_among-from_Contains set p h)) BaseRule p pairing person (Contains-from_is_among (p ∷ []) p (is_among-here p []))
  pairs-decide OverlapRule before =
      pairs-covered listed (λ duty. is_listed k set duty.holder) inside both
      (λ a b. common a.report a.release b.report b.release ≡ 0) problem.duties
      (λ part. part.holds OverlapRule)
  pairs-decide LeaveRule before =
      all-covered listed (λ duty. is_listed k set duty.holder) inside both
      (IsOffLeave (leaves_of problem k)) problem.duties (λ part. part.holds LeaveRule)
  pairs-decide RestRule before =
      keeps_from (home_of problem k) (duty_list problem k set)
      (rests-covered listed (λ duty. is_listed k set duty.holder) inside both (home_of problem k) problem.duties (λ part. rests_from (home_of problem k) (duty_list problem k part.part) (part.holds RestRule)))
  pairs-decide rule before = absurd (omega arith)
