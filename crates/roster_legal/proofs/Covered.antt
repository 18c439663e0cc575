-- What holds of a list of duties, since it holds of parts of it of which each two of them have one in
-- common.
use Rattle.std.proofs.Common.{◌≡◌, suc, Bool, true, false, List, [], ◌∷◌, sym, subst, inl, inr, arith}
use Rattle.std.specs.Prelude.{All, AllPairs, filter}
use Rattle.std.proofs.lemmas.Bool.{cases_Bool, cond-true, cond-false, both_ways, false_from_ne_true}
use Rattle.std.proofs.lemmas.List.Elements.{All-nil, All-cons, All-head, All-tail}
use Rattle.std.proofs.lemmas.List.Kept.{AllPairs-cons}
use Rattle.roster_model.specs.records.Base.{Base}
use Rattle.roster_model.specs.records.Duty.{Duty}
use Rattle.roster_legal.proofs.Parts.Rest.{RestLies, RestsFirst, Rests}

-- ---- a list with one element more, as a filter leaves it

kept : (test : Duty → Bool) (x : Duty) (xs : List Duty) → test x ≡ true
    → filter test (x ∷ xs) ≡ x ∷ filter test xs
kept test x xs passes = cond-true (test x) (x ∷ filter test xs) (filter test xs) passes

left : (test : Duty → Bool) (x : Duty) (xs : List Duty) → test x ≡ false
    → filter test (x ∷ xs) ≡ filter test xs
left test x xs fails = cond-false (test x) (x ∷ filter test xs) (filter test xs) fails

AllPairs-head : {X : Type 0} (R : X → X → Type 0) (x : X) (xs : List X) → AllPairs R (x ∷ xs) → All (R x) xs
AllPairs-head R x xs all = λ j d inside. all 0 (suc j) d (omega arith) (omega arith)

AllPairs-tail : {X : Type 0} (R : X → X → Type 0) (x : X) (xs : List X) → AllPairs R (x ∷ xs) → AllPairs R xs
AllPairs-tail R x xs all = λ i j d before inside. all (suc i) (suc j) d (omega arith) (omega arith)

AllPairs-nil : {X : Type 0} (R : X → X → Type 0) → AllPairs R []
AllPairs-nil R = λ i j d before inside. absurd (omega arith)

module _ {I : Type 0} (test : I → Duty → Bool) (whole : Duty → Bool) (inside : (i : I) (a : Duty) → test i a ≡ true → whole a ≡ true) (both : (a b : Duty) → whole a ≡ true → whole b ≡ true → (i : I) × (test i a ≡ true) × (test i b ≡ true)) where
  outside : (i : I) (a : Duty) → whole a ≡ false → test i a ≡ false
  outside i a fails = false_from_ne_true (test i a) (λ h. both_ways (whole a) fails (inside i a h))

  -- ---- what is said of one duty

  tail_all : (P : Duty → Type 0) (i : I) (x : Duty) (xs : List Duty) → All P (filter (test i) (x ∷ xs))
      → All P (filter (test i) xs)
  tail_all P i x xs all =
      elim (cases_Bool (test i x)) [
        | inl passes ↦ All-tail P x (filter (test i) xs) (subst (All P) (kept (test i) x xs passes) all)
        | inr fails ↦ subst (All P) (left (test i) x xs fails) all
      ]

  pub all-covered : (P : Duty → Type 0) (xs : List Duty) → ((i : I) → All P (filter (test i) xs))
      → All P (filter whole xs)
  all-covered P [] each = All-nil P
  all-covered P (x ∷ xs) each =
      let rest = all-covered P xs (λ i. tail_all P i x xs (each i)) in
      elim (cases_Bool (whole x)) [
        | inl passes ↦
            let part = both x x passes passes in
            let here =
            All-head P x (filter (test part.0) xs)
            (subst (All P) (kept (test part.0) x xs part.1) (each part.0)) in
            subst (All P) (sym (kept whole x xs passes)) (All-cons P x (filter whole xs) here rest)
        | inr fails ↦ subst (All P) (sym (left whole x xs fails)) rest
      ]

  -- ---- what is said of any two

  first_covered : (R : Duty → Duty → Type 0) (a : Duty) → whole a ≡ true → (xs : List Duty)
      → ((i : I) → test i a ≡ true → All (R a) (filter (test i) xs)) → All (R a) (filter whole xs)
  first_covered R a is [] each = All-nil (R a)
  first_covered R a is (x ∷ xs) each =
      let rest = first_covered R a is xs (λ i h. tail_all (R a) i x xs (each i h)) in
      elim (cases_Bool (whole x)) [
        | inl passes ↦
            let part = both a x is passes in
            let here =
            All-head (R a) x (filter (test part.0) xs)
            (subst (All (R a)) (kept (test part.0) x xs part.2) (each part.0 part.1)) in
            subst (All (R a)) (sym (kept whole x xs passes)) (All-cons (R a) x (filter whole xs) here rest)
        | inr fails ↦ subst (All (R a)) (sym (left whole x xs fails)) rest
      ]

  tail_pairs : (R : Duty → Duty → Type 0) (i : I) (x : Duty) (xs : List Duty)
      → AllPairs R (filter (test i) (x ∷ xs)) → AllPairs R (filter (test i) xs)
  tail_pairs R i x xs all =
      elim (cases_Bool (test i x)) [
        | inl passes ↦ AllPairs-tail R x (filter (test i) xs) (subst (AllPairs R) (kept (test i) x xs passes) all)
        | inr fails ↦ subst (AllPairs R) (left (test i) x xs fails) all
      ]

  pub pairs-covered : (R : Duty → Duty → Type 0) (xs : List Duty)
      → ((i : I) → AllPairs R (filter (test i) xs)) → AllPairs R (filter whole xs)
  pairs-covered R [] each = AllPairs-nil R
  pairs-covered R (x ∷ xs) each =
      let rest = pairs-covered R xs (λ i. tail_pairs R i x xs (each i)) in
      elim (cases_Bool (whole x)) [
        | inl passes ↦
            let first = first_covered R x passes xs (λ i h. AllPairs-head R x (filter (test i) xs) (subst (AllPairs R) (kept (test i) x xs h) (each i))) in
            subst (AllPairs R) (sym (kept whole x xs passes)) (AllPairs-cons R x (filter whole xs) first rest)
        | inr fails ↦ subst (AllPairs R) (sym (left whole x xs fails)) rest
      ]

  -- ---- what is said of neighbours

  next_covered : (home : Base) (a : Duty) → whole a ≡ true → (xs : List Duty)
      → ((i : I) → test i a ≡ true → RestsFirst home a (filter (test i) xs))
      → RestsFirst home a (filter whole xs)
  next_covered home a is [] each = tt
  next_covered home a is (x ∷ xs) each =
      elim (cases_Bool (whole x)) [
        | inl passes ↦
            let part = both a x is passes in
            let here : RestLies home a x =
            subst (RestsFirst home a) (kept (test part.0) x xs part.2) (each part.0 part.1) in
            subst (RestsFirst home a) (sym (kept whole x xs passes)) here
        | inr fails ↦
            let rest =
            next_covered home a is xs
            (λ i h. subst (RestsFirst home a) (left (test i) x xs (outside i x fails)) (each i h)) in
            subst (RestsFirst home a) (sym (left whole x xs fails)) rest
      ]

  tail_of_rests : (home : Base) (i : I) (x : Duty) (xs : List Duty) → Rests home (filter (test i) (x ∷ xs))
      → Rests home (filter (test i) xs)
  tail_of_rests home i x xs rests =
      elim (cases_Bool (test i x)) [
        | inl passes ↦ (subst (Rests home) (kept (test i) x xs passes) rests).1
        | inr fails ↦ subst (Rests home) (left (test i) x xs fails) rests
      ]

  pub rests-covered : (home : Base) (xs : List Duty) → ((i : I) → Rests home (filter (test i) xs))
      → Rests home (filter whole xs)
  rests-covered home [] each = tt
  rests-covered home (x ∷ xs) each =
      let rest = rests-covered home xs (λ i. tail_of_rests home i x xs (each i)) in
      elim (cases_Bool (whole x)) [
        | inl passes ↦
            let first =
            next_covered home x passes xs
            (λ i h. (subst (Rests home) (kept (test i) x xs h) (each i)).0) in
            subst (Rests home) (sym (kept whole x xs passes)) (first, rest)
        | inr fails ↦ subst (Rests home) (sym (left whole x xs fails)) rest
      ]
