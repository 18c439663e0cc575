-- Persons whose lines are the same may change places: the sets of a roster are offered as before, the same pairings
-- are open, and it costs the same. So if such a person has a pairing, each other may have it in their place. Branches
-- that count on it are orbital: Ostrowski, Linderoth, Rossi and Smriglio, "Orbital branching", Mathematical
-- Programming 126, 2011.
use Rattle.std.proofs.Common.{◌≡◌, ℕ, zero, suc, ◌+◌, ◌<◌, ◌≤◌, cond, eqb, eq-eqb, List, [], ◌∷◌, length, map, Some, ℤ, pos, ◌+ℤ◌, ◌*ℤ◌, ◌≤ℤ◌, refl, sym, ap, ap₂, ◌∙◌, subst, inl, inr, arith}
use Rattle.std.specs.Prelude.{Contains, option_map, slice_get}
use Rattle.std.specs.List.{count_by, range_with_len}
use Rattle.std.proofs.Math.IntN.{pos-*ℤ-pos}
use Rattle.std.proofs.lemmas.Bool.{cases_eq, ne_eqb}
use Rattle.std.proofs.lemmas.Int.{ints}
use Rattle.std.proofs.lemmas.List.{length-map}
use Rattle.std.proofs.lemmas.List.Elements.{All-contains, All-map}
use Rattle.std.proofs.lemmas.List.Sums.{sum_by-cons}
use Rattle.std.proofs.lemmas.Option.{none-some, same_Some, slice_get-map, slice_get_cases, slice_get_within}
use Rattle.roster_model.specs.Costs.{cost_of, line_cost, open_penalties, total}
use Rattle.roster_model.specs.Places.{open_number, places_with, set_of}
use Rattle.roster_model.specs.Problem.{Problem}
use Rattle.roster_model.specs.Rosters.{IsLegalRoster}
use Rattle.roster_model.specs.Rules.{IsLegal}
use Rattle.roster_model.specs.records.Pairing.{Pairing}
use Rattle.roster_model.proofs.CostLemmas.{total-both, total-cons, total-nil}
use Rattle.roster_cost.proofs.Shares.{by_person, same_total}
use Rattle.roster_search_regions.specs.Regions.{extra_of, lines_of, open_in, sets_of, AllowedLine, Has, HasNot, IsAllowedLine, IsIn, IsNarrowed, IsRegion, Region}
use Rattle.roster_search_regions.proofs.RegionLemmas.{chosen_line, lines_of_get, lines_of_is}
use Rattle.roster_search_regions.proofs.ListLemmas.{Contains-map}
use Rattle.roster_search_fixing.proofs.Fine.{times-le, times-plus}
use Rattle.roster_search_least.proofs.FindLemmas.{cost_cases, has_cases}
use Rattle.roster_search_regions.specs.declared.split.Split.TheVariants.{Holder}
use Rattle.roster_search.specs.Branches.{AreAlike, IsOtherSide}

-- ---- two numbers that change places

pub swapped : ℕ → ℕ → ℕ → ℕ
swapped j k x = cond (eqb x j) k (cond (eqb x k) j x)

swapped_first : (j k : ℕ) → swapped j k j ≡ k
unfolding swapped
swapped_first j k = rw (eq-eqb j j refl) refl

swapped_second : (j k : ℕ) → swapped j k k ≡ j
unfolding swapped
swapped_second j k =
    elim (cases_eq k j) [
      | inl same ↦ rw (eq-eqb k j same) same
      | inr other ↦ rw (ne_eqb k j other, eq-eqb k k refl) refl
    ]

swapped_other : (j k x : ℕ) → (x ≡ j → ⊥) → (x ≡ k → ⊥) → swapped j k x ≡ x
unfolding swapped
swapped_other j k x first second = rw (ne_eqb x j first, ne_eqb x k second) refl

-- done twice, that changes nothing
swapped_back : (j k x : ℕ) → swapped j k (swapped j k x) ≡ x
swapped_back j k x =
    elim (cases_eq x j) [
      | inl first ↦
          ap (swapped j k) (ap (swapped j k) first ∙ swapped_first j k) ∙ swapped_second j k ∙ sym first
      | inr other ↦ elim (cases_eq x k) [
        | inl second ↦ ap (swapped j k) (ap (swapped j k) second ∙ swapped_second j k) ∙ swapped_first j k ∙ sym second
        | inr third ↦ ap (swapped j k) (swapped_other j k x other third) ∙ swapped_other j k x other third
      ]
    ]

swapped_is : (j k x i : ℕ) → eqb (swapped j k x) i ≡ eqb x (swapped j k i)
swapped_is j k x i =
    elim (cases_eq (swapped j k x) i) [
      | inl same ↦
          eq-eqb (swapped j k x) i same
          ∙ sym (eq-eqb x (swapped j k i) (sym (swapped_back j k x) ∙ ap (swapped j k) same))
      | inr other ↦
          ne_eqb (swapped j k x) i other
          ∙ sym (ne_eqb x (swapped j k i) (λ same. other (ap (swapped j k) same ∙ swapped_back j k i)))
    ]

swapped_within : (n j k x : ℕ) → j < n → k < n → x < n → swapped j k x < n
swapped_within n j k x first second inside =
    elim (cases_eq x j) [
      | inl here ↦ subst (λ y. y < n) (sym (ap (swapped j k) here ∙ swapped_first j k)) second
      | inr other ↦ elim (cases_eq x k) [
        | inl there ↦ subst (λ y. y < n) (sym (ap (swapped j k) there ∙ swapped_second j k)) first
        | inr third ↦ subst (λ y. y < n) (sym (swapped_other j k x other third)) inside
      ]
    ]

-- a number past them stays
swapped_past : (n j k : ℕ) → j < n → k < n → swapped j k n ≡ n
swapped_past n j k first second = swapped_other j k n (λ same. omega arith) (λ same. omega arith)

swapped_most : (n j k x : ℕ) → j < n → k < n → x ≤ n → swapped j k x ≤ n
swapped_most n j k x first second inside =
    elim (cases_eq x n) [
      | inl last ↦ subst (λ y. y ≤ n) (sym (ap (swapped j k) last ∙ swapped_past n j k first second)) (omega arith)
      | inr other ↦ let less = swapped_within n j k x first second (omega arith) in omega arith
    ]

-- ---- sums in another order

same_past : (f g : ℕ → ℤ) (first n k : ℕ) → k < first → ((i : ℕ) → (i ≡ k → ⊥) → f i ≡ g i)
    → total f (range_with_len first n) ≡ total g (range_with_len first n)
same_past f g first zero k past same = total-nil f ∙ sym (total-nil g)
same_past f g first (suc n) k past same =
    let rest = range_with_len (first + 1) n in
    omega (arith, ints, total-cons f first rest, total-cons g first rest, same first (λ is. omega arith), same_past f g (first + 1) n k (omega arith) same)

-- sums that differ at one number differ as much as it does
differ_at : (f g : ℕ → ℤ) (first n k : ℕ) → first ≤ k → k < first + n → ((i : ℕ) → (i ≡ k → ⊥) → f i ≡ g i)
    → total f (range_with_len first n) +ℤ g k ≡ total g (range_with_len first n) +ℤ f k
differ_at f g first zero k low high same = absurd (omega arith)
differ_at f g first (suc n) k low high same =
    let rest = range_with_len (first + 1) n in
    elim (cases_eq k first) [
      | inl here ↦
          let later = same_past f g (first + 1) n k (omega arith) same in
          omega (arith, ints, total-cons f first rest, total-cons g first rest, ap f here, ap g here, later)
      | inr other ↦
          let later = differ_at f g (first + 1) n k (omega arith) (omega arith) same in
          omega (arith, ints, total-cons f first rest, total-cons g first rest, same first (λ is. other (sym is)), later)
    ]

total-swapped : (f : ℕ → ℤ) (n j k : ℕ) → j < n → k < n
    → total (λ i. f (swapped j k i)) (range_with_len 0 n) ≡ total f (range_with_len 0 n)
total-swapped f n j k first second =
    let persons = range_with_len 0 n in
    elim (cases_eq j k) [
      | inl same ↦ same_total (λ i. f (swapped j k i)) f (λ i. elim (cases_eq i j) [
        | inl here ↦ ap f (ap (swapped j k) here ∙ swapped_first j k ∙ sym same ∙ sym here)
        | inr other ↦ ap f (swapped_other j k i other (λ is. other (is ∙ sym same)))
      ]) persons
      | inr apart ↦
          let g : ℕ → ℤ = λ i. f (swapped j k i) in
          let mid : ℕ → ℤ = λ i. cond (eqb i j) (f k) (f i) in
          let mid_first : mid j ≡ f k = ap (λ b. cond b (f k) (f j)) (eq-eqb j j refl) in
          let mid_other : (i : ℕ) → (i ≡ j → ⊥) → mid i ≡ f i =
          λ i other. ap (λ b. cond b (f k) (f i)) (ne_eqb i j other) in
          let one = differ_at mid f 0 n j (omega arith) (omega arith) mid_other in
          let two = differ_at g mid 0 n k (omega arith) (omega arith) (λ i other. elim (cases_eq i j) [
            | inl here ↦ ap f (ap (swapped j k) here ∙ swapped_first j k) ∙ sym (ap mid here ∙ mid_first)
            | inr third ↦ ap f (swapped_other j k i third other) ∙ sym (mid_other i third)
          ]) in
          let last : g k ≡ f j = ap f (swapped_second j k) in
          let here : mid k ≡ f k = mid_other k (λ is. apart (sym is)) in
          omega (arith, ints, one, two, last, here, mid_first)
    ]

-- a sum of the same numbers
total-in_range : (f g : ℕ → ℤ) (first n : ℕ) → ((i : ℕ) → i < first + n → f i ≡ g i)
    → total f (range_with_len first n) ≡ total g (range_with_len first n)
total-in_range f g first zero same = total-nil f ∙ sym (total-nil g)
total-in_range f g first (suc n) same =
    let rest = range_with_len (first + 1) n in
    omega (arith, ints, total-cons f first rest, total-cons g first rest, same first (omega arith), total-in_range f g (first + 1) n (λ i inside. same i (omega arith)))

times_one : (n : ℕ) → pos n *ℤ pos 1 ≡ pos n
times_one n = pos-*ℤ-pos n 1 ∙ ap pos (omega arith)

-- as many times the same number
cancelled : (n : ℕ) (a b : ℤ) → 0 < n → pos n *ℤ a ≡ pos n *ℤ b → a ≤ℤ b
cancelled n a b some same =
    elim (cost_cases b a) [
      | inl less ↦ less
      | inr more ↦
          let next = times-le n (b +ℤ pos 1) a (omega (arith, ints)) in
          let split = times-plus n b (pos 1) in
          let one : pos n *ℤ pos 1 ≡ pos n = times_one n in
          absurd (omega (arith, ints, next, split, one, same))
    ]

-- ---- a list in which two numbers change places

places-swapped : (j k i p : ℕ) (places : List ℕ)
    → places_with i p (map (swapped j k) places) ≡ places_with (swapped j k i) p places
places-swapped j k i p [] = refl
places-swapped j k i p (x ∷ places) =
    let rest = places-swapped j k i (p + 1) places in
    ap (λ b. cond b (p ∷ places_with i (p + 1) (map (swapped j k) places)) (places_with i (p + 1) (map (swapped j k) places))) (swapped_is j k x i)
    ∙ ap (λ xs. cond (eqb x (swapped j k i)) (p ∷ xs) xs) rest

open-swapped : (j k n : ℕ) (pairings : List Pairing) (places : List ℕ) → j < n → k < n
    → open_penalties n pairings (map (swapped j k) places) ≡ open_penalties n pairings places
open-swapped j k n [] places first second = refl
open-swapped j k n (pairing ∷ pairings) [] first second = refl
open-swapped j k n (pairing ∷ pairings) (x ∷ places) first second =
    let here : eqb (swapped j k x) n ≡ eqb x n =
    swapped_is j k x n ∙ ap (eqb x) (swapped_past n j k first second) in
    ap₂ (λ b m. cond b pairing.penalty 0 + m) here (open-swapped j k n pairings places first second)

count-swapped : (j k n : ℕ) (places : List ℕ) → j < n → k < n
    → count_by (λ x. eqb x n) (map (swapped j k) places) ≡ count_by (λ x. eqb x n) places
count-swapped j k n [] first second = refl
count-swapped j k n (x ∷ places) first second =
    let here : eqb (swapped j k x) n ≡ eqb x n =
    swapped_is j k x n ∙ ap (eqb x) (swapped_past n j k first second) in
    let one : cond (eqb (swapped j k x) n) 1 0 ≡ cond (eqb x n) 1 0 = ap {B = ℕ} (λ b. cond b 1 0) here in
    omega (arith, sum_by-cons (λ y. cond (eqb y n) 1 0) (swapped j k x) (map (swapped j k) places), sum_by-cons (λ y. cond (eqb y n) 1 0) x places, one, count-swapped j k n places first second)

-- ---- persons whose lines are the same

module _ (problem : Problem) (region : Region) (j k : ℕ) (places : List ℕ) (is : IsRegion problem region)
    (first : j < length problem.persons) (second : k < length problem.persons) (alike : AreAlike region j k)
    (there : IsIn problem region places) where
  new : List ℕ
  new = map (swapped j k) places

  set_is : (i : ℕ) → set_of i new ≡ set_of (swapped j k i) places
  unfolding new
  set_is i = places-swapped j k i 0 places

  lines_are : (i : ℕ) → lines_of region (swapped j k i) ≡ lines_of region i
  lines_are i =
      elim (cases_eq i j) [
        | inl here ↦ ap (lines_of region) (ap (swapped j k) here ∙ swapped_first j k) ∙ sym alike ∙ ap (lines_of region) (sym here)
        | inr other ↦ elim (cases_eq i k) [
          | inl here ↦ ap (lines_of region) (ap (swapped j k) here ∙ swapped_second j k) ∙ alike ∙ ap (lines_of region) (sym here)
          | inr third ↦ ap (lines_of region) (swapped_other j k i other third)
        ]
      ]

  line_at : (i : ℕ) → i < length problem.persons
      → (line : AllowedLine) × Contains (lines_of region (swapped j k i)) line × (line.set ≡ set_of (swapped j k i) places)
  line_at i inside = chosen_line problem region places (swapped j k i) there (omega (arith, is.covers, swapped_within (length problem.persons) j k i first second inside))

  allowed_at : (i : ℕ) → i < length problem.persons → (line : AllowedLine) → Contains (lines_of region i) line
      → IsAllowedLine problem region.scale i line
  allowed_at i inside line has =
      let room : i < length region.choices = omega (arith, is.covers, inside) in
      All-contains (IsAllowedLine problem region.scale i) (lines_of region i) line
      (is.each i (lines_of region i) (lines_of_get region i room)) has

  known_at : (i : ℕ) (inside : i < length problem.persons)
      → IsAllowedLine problem region.scale i (line_at i inside).0
  known_at i inside =
      let line = line_at i inside in
      allowed_at i inside line.0 (subst (λ lines. Contains lines line.0) (lines_are i) line.1)

  open_is : (p : ℕ) → slice_get new p ≡ Some (open_number problem)
      → slice_get places p ≡ Some (open_number problem)
  unfolding new
  open_is p at =
      elim (slice_get_cases places p).1 [
        | inl here ↦
            let n : ℕ = open_number problem in
            let moved : swapped j k here.0 ≡ n =
            same_Some _ _ (sym (slice_get-map (swapped j k) places p ∙ ap (option_map (swapped j k)) here.2) ∙ at) in
            here.2 ∙ ap Some (sym (swapped_back j k here.0) ∙ ap (swapped j k) moved ∙ swapped_past n j k first second)
        | inr past ↦ absurd (none-some _ (sym (slice_get-map (swapped j k) places p ∙ ap (option_map (swapped j k)) past.1) ∙ at))
      ]

  open_stays : (p : ℕ) → slice_get places p ≡ Some (open_number problem)
      → slice_get new p ≡ Some (open_number problem)
  unfolding new
  open_stays p at =
      slice_get-map (swapped j k) places p ∙ ap (option_map (swapped j k)) at
      ∙ ap Some (swapped_past (open_number problem) j k first second)

  count_is : open_in problem new ≡ open_in problem places
  unfolding new
  count_is = count-swapped j k (open_number problem) places first second

  legal : IsLegalRoster problem new
  unfolding new
  legal = record {
    covers = length-map places (swapped j k) ∙ there.legal.covers;
    numbers = All-map (λ x. x ≤ length problem.persons) (swapped j k) places (λ i d inside. swapped_most (length problem.persons) j k _ first second (there.legal.numbers i d inside));
    legal = λ i inside.
        let line = line_at i inside in
        subst (IsLegal problem i) (line.2 ∙ sym (set_is i)) (known_at i inside).is_line.legal;
  }

  pub swapped_inside : IsIn problem region (map (swapped j k) places)
  unfolding new
  swapped_inside = record {
    legal = legal;
    chosen = λ i lines at.
        let room = slice_get_within region.choices i lines at in
        let inside : i < length problem.persons = omega (arith, is.covers, room) in
        let line = line_at i inside in
        subst (λ ls. Contains (sets_of ls) (set_of i new)) (lines_are i ∙ lines_of_is region i lines at)
        (subst (Contains (sets_of (lines_of region (swapped j k i)))) (line.2 ∙ sym (set_is i)) (Contains-map (λ (l : AllowedLine). l.set) (lines_of region (swapped j k i)) line.0 line.1));
    left_open = λ p among. open_stays p (there.left_open p among);
    flown = λ p among free. there.flown p among (open_is p free);
    least_open = subst (λ n. region.least_open ≤ n) (sym count_is) there.least_open;
    most_open = subst (λ n. n ≤ region.most_open) (sym count_is) there.most_open;
  }

  extra_is : (i : ℕ) → i < length problem.persons → 0 < region.scale
      → extra_of problem i (set_of i new) ≡ extra_of problem (swapped j k i) (set_of (swapped j k i) places)
  extra_is i inside some =
      let line = line_at i inside in
      let mine = known_at i inside in
      let other = swapped_within (length problem.persons) j k i first second inside in
      let theirs = allowed_at (swapped j k i) other line.0 line.1 in
      let own : ℤ = extra_of problem i line.0.set in
      let other_own : ℤ = extra_of problem (swapped j k i) line.0.set in
      let one = cancelled region.scale own other_own some (sym mine.extra ∙ theirs.extra) in
      let two = cancelled region.scale other_own own some (sym theirs.extra ∙ mine.extra) in
      let same : own ≡ other_own = omega (arith, ints, one, two) in
      ap (extra_of problem i) (set_is i ∙ sym line.2) ∙ same ∙ ap (extra_of problem (swapped j k i)) line.2

  pub swapped_costs : 0 < region.scale → cost_of problem (map (swapped j k) places) ≡ cost_of problem places
  unfolding new
  swapped_costs some =
      let n : ℕ = length problem.persons in
      let persons = range_with_len 0 n in
      let empty : ℕ → ℤ = λ i. line_cost problem i [] in
      let old_extra : ℕ → ℤ = λ i. extra_of problem i (set_of i places) in
      let new_extra : ℕ → ℤ = λ i. extra_of problem i (set_of i new) in
      let old_lines =
      total-both (λ i. line_cost problem i (set_of i places)) empty old_extra
      (λ i. omega (arith, ints)) persons in
      let new_lines =
      total-both (λ i. line_cost problem i (set_of i new)) empty new_extra (λ i. omega (arith, ints)) persons in
      let moved = total-in_range new_extra (λ i. old_extra (swapped j k i)) 0 n (λ i inside. extra_is i (omega arith) some) in
      let back = total-swapped old_extra n j k first second in
      let free = open-swapped j k n problem.pairings places first second in
      omega (arith, ints, by_person problem new, by_person problem places, old_lines, new_lines, moved, back, free)

-- ---- nobody like person k has the pairing

has-swapped : (j k p : ℕ) (places : List ℕ) → Has j p places → Has k p (map (swapped j k) places)
has-swapped j k p places has =
    slice_get-map (swapped j k) places p ∙ ap (option_map (swapped j k)) has ∙ ap Some (swapped_first j k)

-- one more person like k is denied it
pub denied_alike : (problem : Problem) (old mid new : Region) (k p j : ℕ) → IsRegion problem old → 0 < old.scale
    → j < length problem.persons → k < length problem.persons → AreAlike old j k
    → IsOtherSide problem (Holder k p) old mid → IsNarrowed problem (HasNot j p) mid new
    → IsOtherSide problem (Holder k p) old new
denied_alike problem old mid new k p j is some first second alike before step = record {
  is_region = step.region;
  inside = λ places there. before.inside places (step.inside places there);
  all = λ places here not. elim (before.all places here not) [
    | inl there ↦ elim (has_cases j p places) [
      | inl has ↦
          let same = swapped_costs problem old j k places is first second alike here some in
          inr (record {
            roster = map (swapped j k) places;
            inside = (swapped_inside problem old j k places is first second alike here, has-swapped j k p places has);
            cost = omega (arith, ints);
          })
      | inr hasnot ↦ inl (step.kept places there hasnot)
    ]
    | inr matched ↦ inr matched
  ];
}
