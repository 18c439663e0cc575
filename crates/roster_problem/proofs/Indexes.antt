-- The index from places to the positions of the elements that belong to them.
use Rattle.std.proofs.Common.{◌≡◌, ℕ, ◌+◌, ◌<◌, ◌≤◌, Bool, true, cond, eqb, eq-eqb, List, [], ◌∷◌, ◌++◌, length, take, get_or, set, map, replicate, Option, Some, None, refl, sym, ap, ◌∙◌, subst, inl, inr, arith, append-nil}
use Rattle.std.specs.Prelude.{All, slice_get}
use Rattle.std.proofs.lemmas.Bool.{cases_eq, cond-true, cond-false, ne_eqb, eqb-true, both_ways}
use Rattle.std.proofs.lemmas.List.{map-set, get_or-map, get_or-set_same, get_or-set_other, get_or-replicate, length-map, length-set, length-replicate}
use Rattle.std.proofs.lemmas.Option.{slice_get-get_or, get_or_from_slice_get, same_Some}
use Rattle.roster_model.specs.declared.limits.TheConstants.{MOST_DUTIES}
use Rattle.roster_model.specs.Problem.{Problem}
use Rattle.roster_model.specs.records.Duty.{Duty, Holder, OfPairing, OfPerson, is_held_by_pairing, is_held_by_person}
use Rattle.roster_model.specs.records.Leave.{Leave, is_leave_of}
use Rattle.roster_problem.specs.Sound.{IsHolder, IsSound}
use Rattle.roster_problem.specs.Duties.{ArePositionsOf, IsIndex, is_at, is_of_pairing, is_of_person, positions_where}
use Rattle.roster_problem.proofs.PositionLists.{positions_where-more, ArePositionsOf-where}

-- one position more in a list of a table of lists
pub map-pushed : {V : Type 0} (f : V → List ℕ) (xs : List V) (ys : List (List ℕ)) (i x : ℕ) (old new : V)
    → map f xs ≡ ys → i < length ys → old ≡ get_or xs i old → f new ≡ f old ++ x ∷ []
    → map f (set xs i new) ≡ set ys i (get_or ys i [] ++ x ∷ [])
map-pushed f xs ys i x old new view inside at more =
    let long : length xs ≡ length ys = sym (length-map xs f) ∙ ap length view in
    let was : get_or ys i [] ≡ f old =
    ap (λ zs. get_or zs i []) (sym view) ∙ get_or-map f xs i old [] (omega arith) ∙ ap f (sym at) in
    map-set f xs i new ∙ ap (λ zs. set zs i (f new)) view
    ∙ ap (set ys i) (more ∙ ap (λ zs. zs ++ x ∷ []) (sym was))

-- with one element more, which belongs to this place or to none
belongs-more : {X : Type 0} (belongs : ℕ → X → Bool) (q i : ℕ) (xs : List X) (x : X) (place : Option ℕ) → i < length xs → x ≡ get_or xs i x → belongs q x ≡ is_at q place → positions_where (belongs q) 0 (take (i + 1) xs) ≡ positions_where (belongs q) 0 (take i xs) ++ cond (is_at q place) (i ∷ []) []
belongs-more belongs q i xs x place inside at tells =
    positions_where-more (belongs q) i xs x inside at
    ∙ ap (λ b. positions_where (belongs q) 0 (take i xs) ++ cond b (i ∷ []) []) tells

pub IsIndex-more : {X : Type 0} (belongs : ℕ → X → Bool) (n p i : ℕ) (xs : List X) (x : X) (lists : List (List ℕ)) → p < n → i < length xs → x ≡ get_or xs i x → ((q : ℕ) → belongs q x ≡ is_at q (Some p)) → IsIndex belongs n (take i xs) lists → IsIndex belongs n (take (i + 1) xs) (set lists p (get_or lists p [] ++ i ∷ []))
IsIndex-more belongs n p i xs x lists known inside at tells index =
    let new : List ℕ = get_or lists p [] ++ i ∷ [] in
    let long : length lists ≡ n = index.long in
    record {
      long = length-set lists p new ∙ long;
      each = λ q within.
          let there : slice_get (set lists p new) q ≡ Some (get_or (set lists p new) q []) =
          slice_get-get_or (set lists p new) q [] (omega (arith, length-set lists p new)) in
          let was : get_or lists q [] ≡ positions_where (belongs q) 0 (take i xs) =
          get_or_from_slice_get lists q _ [] (index.each q within) in
          let more = belongs-more belongs q i xs x (Some p) inside at (tells q) in
          there ∙ ap Some (elim (cases_eq q p) [
            | inl same ↦
                let here : get_or (set lists p new) q [] ≡ new =
                ap (λ r. get_or (set lists p new) r []) same
                ∙ get_or-set_same lists p new [] (omega arith) in
                let old : get_or lists p [] ≡ positions_where (belongs q) 0 (take i xs) =
                ap (λ r. get_or lists r []) (sym same) ∙ was in
                here ∙ ap (λ ys. ys ++ i ∷ []) old ∙ sym (more ∙ ap (λ ys. positions_where (belongs q) 0 (take i xs) ++ ys) (cond-true (eqb p q) (i ∷ []) [] (eq-eqb p q (sym same))))
            | inr other ↦
                let apart : p ≡ q → ⊥ = λ e. other (sym e) in
                get_or-set_other lists p q new [] other ∙ was ∙ sym (more ∙ ap (λ ys. positions_where (belongs q) 0 (take i xs) ++ ys) (cond-false (eqb p q) (i ∷ []) [] (ne_eqb p q apart)) ∙ append-nil _)
          ]);
    }

pub IsIndex-passed : {X : Type 0} (belongs : ℕ → X → Bool) (n i : ℕ) (xs : List X) (x : X) (lists : List (List ℕ)) → i < length xs → x ≡ get_or xs i x → ((q : ℕ) → belongs q x ≡ is_at q None) → IsIndex belongs n (take i xs) lists → IsIndex belongs n (take (i + 1) xs) lists
IsIndex-passed belongs n i xs x lists inside at tells index = record {
  long = index.long;
  each = λ q within.
      index.each q within
      ∙ ap Some (sym (belongs-more belongs q i xs x None inside at (tells q) ∙ append-nil _));
}

pub IsIndex-none : {X : Type 0} (belongs : ℕ → X → Bool) (n : ℕ) → IsIndex belongs n [] (replicate n [])
IsIndex-none belongs n =
    let none : List ℕ = [] in
    record {
      long = length-replicate n none;
      each = λ p within. slice_get-get_or (replicate n none) p none (omega (arith, length-replicate n none)) ∙ ap Some (get_or-replicate n p none none within);
    }

-- what the list of a place says of duties: `belongs` tells which are the place's
pub record AreDutiesOf (belongs : ℕ → Duty → Bool) (p : ℕ) (problem : Problem) (list : List ℕ) : Type 0 where
  pub positions : ArePositionsOf (belongs p) problem.duties list
  pub bound : length list ≤ MOST_DUTIES

-- The list of a place, in a problem that is given as these tables.
pub positions_of_place : {X : Type 0} (belongs : ℕ → X → Bool) (places : Problem → ℕ)
    (entries : Problem → List X) (p : ℕ) (tables problem : Problem) (lists : List (List ℕ)) (list : List ℕ)
    → tables ≡ problem → IsIndex belongs (places tables) (entries tables) lists → p < places problem
    → slice_get lists p ≡ Some list → ArePositionsOf (belongs p) (entries problem) list
positions_of_place belongs places entries p tables problem lists list same index within at =
    let own = subst (λ (all : Problem). IsIndex belongs (places all) (entries all) lists) same index in
    ArePositionsOf-where (belongs p) (entries problem) list (same_Some _ _ (sym at ∙ own.each p within))

-- the same of duties, which are no more than a book may have
pub duties_of_place : (belongs : ℕ → Duty → Bool) (places : Problem → ℕ) (p : ℕ) (tables problem : Problem)
    (lists : List (List ℕ)) (list : List ℕ)
    → tables ≡ problem → IsSound tables → IsIndex belongs (places tables) tables.duties lists
    → p < places problem → slice_get lists p ≡ Some list → AreDutiesOf belongs p problem list
duties_of_place belongs places p tables problem lists list same sound index within at =
    let positions =
    positions_of_place belongs places
    (λ all. all.duties) p tables problem lists list same index within at in
    let few = subst (λ (all : Problem). length all.duties ≤ MOST_DUTIES) same sound.duties in
    record { positions = positions; bound = omega (arith, positions.bound) }

-- the place that is told of an entry is there, where all places that may be told of entries are
pub inside_at : {X : Type 0} (Tells : X → ℕ → Type 0) (n : ℕ) (xs : List X) (i p : ℕ) (x : X)
    → All (λ y. (q : ℕ) → Tells y q → q < n) xs → i < length xs → x ≡ get_or xs i x → Tells x p → p < n
inside_at Tells n xs i p x all inside at told = all i x inside p (subst (λ y. Tells y p) at told)

-- the place of a duty's holder is there
pairing_below : (pairings persons p : ℕ) (holder : Holder) → IsHolder pairings persons holder
    → is_held_by_pairing p holder ≡ true → p < pairings
pairing_below pairings persons p (OfPairing q) there same =
    subst (λ r. r < pairings) (eqb-true q p same) there
pairing_below pairings persons p (OfPerson k) there same = absurd (both_ways _ refl same)

pub pairing_there : (pairings persons p : ℕ) (duty : Duty) → IsHolder pairings persons duty.holder
    → is_of_pairing p duty ≡ is_at p (Some p) → p < pairings
pairing_there pairings persons p duty there told =
    pairing_below pairings persons p duty.holder there (told ∙ eq-eqb p p refl)

person_below : (pairings persons k : ℕ) (holder : Holder) → IsHolder pairings persons holder
    → is_held_by_person k holder ≡ true → k < persons
person_below pairings persons k (OfPairing q) there same = absurd (both_ways _ refl same)
person_below pairings persons k (OfPerson j) there same = subst (λ r. r < persons) (eqb-true j k same) there

pub person_there : (pairings persons k : ℕ) (duty : Duty) → IsHolder pairings persons duty.holder
    → is_of_person k duty ≡ is_at k (Some k) → k < persons
person_there pairings persons k duty there told =
    person_below pairings persons k duty.holder there (told ∙ eq-eqb k k refl)

pub leave_there : (persons k : ℕ) (leave : Leave) → leave.person < persons
    → is_leave_of k leave ≡ is_at k (Some k) → k < persons
leave_there persons k leave there told =
    subst (λ j. j < persons) (eqb-true leave.person k (told ∙ eq-eqb k k refl)) there
