-- What is left to decide in a region, and whether a list of places is in it.
use Rattle.std.proofs.Common.{◌≡◌, ℕ, ◌<◌, ◌≤◌, Bool, true, false, ◌&&◌, List, length, get_or, refl, sym, ap, ◌∙◌, subst, inl, inr, arith}
use Rattle.std.specs.Prelude.{All, Contains}
use Rattle.std.specs.List.{list_all}
use Rattle.std.proofs.lemmas.Bool.{both_ways}
use Rattle.std.proofs.lemmas.List.{get_or_default, same_lists}
use Rattle.std.proofs.lemmas.List.Folds.{Any-from_list_any}
use Rattle.std.proofs.lemmas.List.Sums.{list_all-from_AllPass}
use Rattle.std.proofs.lemmas.List.Elements.{All-contains}
use Rattle.std.proofs.lemmas.Option.{get_or_from_slice_get, slice_get_within}
use Rattle.roster_model.specs.Places.{open_number, set_of}
use Rattle.roster_model.specs.Problem.{Problem}
use Rattle.roster_model.specs.Rules.{is_among, IsLegal}
use Rattle.roster_model.proofs.SetLemmas.{All-is_among, Ascends-from_rising, Ascends-set_of, same_set}
use Rattle.roster_search_regions.specs.Regions.{lines_of, sets_of, AllowedLine, Has, IsAllowedLine, IsDecided, IsIn, IsRegion, IsSplit, IsWhollyIn, Region}
use Rattle.roster_search_regions.specs.Trees.{Offers}
use Rattle.roster_search_regions.proofs.ListLemmas.{Contains-map}
use Rattle.roster_search_regions.proofs.RegionLemmas.{among_from_Has, chosen_line, Has-from_among, lines_of_get, lines_of_is}
use Rattle.roster_search_fixing.specs.Inside.{AreChosen, AreStatesKept, IsCountKept}
use Rattle.roster_search_fixing.specs.Propagation.{IsUncertain}
use Rattle.roster_search_fixing.specs.Splits.{AgreesOn, IsNumberOf}
use Rattle.roster_search_fixing.proofs.PropagationLemmas.{number_of}

-- ---- splits

-- a pairing of some line is one of the problem's
pub split_within : (problem : Problem) (region : Region) (k p : ℕ) → IsRegion problem region
    → k < length problem.persons → IsSplit region k p → p < length problem.pairings
split_within problem region k p is person split =
    let found =
    Any-from_list_any (λ (line : AllowedLine). is_among line.set p) (lines_of region k) split.some in
    let inside : k < length region.choices = omega (arith, is.covers) in
    let known =
    All-contains (IsAllowedLine problem region.scale k) (lines_of region k) found.1
    (is.each k (lines_of region k) (lines_of_get region k inside)) (found.0, found.2, found.3) in
    All-is_among (λ q. q < length problem.pairings) found.1.set p known.is_line.places found.4

-- if the lines of each person are the same, nobody is split
pub decided_by_each : (region : Region) (n : ℕ) → length region.choices ≡ n
    → ((k : ℕ) → k < n → AgreesOn (lines_of region k)) → IsDecided region
decided_by_each region n covers each k lines at =
    let inside = slice_get_within region.choices k lines at in
    subst AgreesOn (lines_of_is region k lines at) (each k (omega arith))

-- ---- a list of places

offered_line : (problem : Problem) (region : Region) (places : List ℕ) (k : ℕ) → IsRegion problem region → k < length region.choices → Offers (lines_of region k) (set_of k places) → (line : AllowedLine) × Contains (lines_of region k) line × (line.set ≡ set_of k places) × IsAllowedLine problem region.scale k line
offered_line problem region places k is inside offer =
    let known =
    All-contains (IsAllowedLine problem region.scale k) (lines_of region k) offer.0
    (is.each k (lines_of region k) (lines_of_get region k inside)) offer.1 in
    (offer.0, offer.1, same_set offer.0.set (set_of k places) (Ascends-from_rising offer.0.set known.is_line.ascending) (Ascends-set_of k places) offer.2, known)

pub inside_by_parts : (problem : Problem) (region : Region) (places : List ℕ) → IsRegion problem region
    → length places ≡ length problem.pairings → All (λ x. x ≤ length problem.persons) places
    → AreStatesKept problem region places → IsCountKept problem region places
    → AreChosen problem region places → IsIn problem region places
inside_by_parts problem region places is covers numbers states count chosen = record {
  legal = record {
    covers = covers;
    numbers = numbers;
    legal = λ k person.
        let line = offered_line problem region places k is (omega (arith, is.covers)) (chosen k person) in
        subst (IsLegal problem k) line.2 line.3.is_line.legal;
  };
  chosen = λ k lines at.
      let inside = slice_get_within region.choices k lines at in
      let line = offered_line problem region places k is inside (chosen k (omega (arith, is.covers))) in
      subst (λ ls. Contains (sets_of ls) (set_of k places)) (lines_of_is region k lines at)
      (subst (Contains (sets_of (lines_of region k))) line.2 (Contains-map (λ (l : AllowedLine). l.set) (lines_of region k) line.0 line.1));
  left_open = states.left_open;
  flown = states.flown;
  least_open = count.0;
  most_open = count.1;
}

pub chosen_inside : (problem : Problem) (region : Region) (places : List ℕ) → IsRegion problem region
    → IsIn problem region places → AreChosen problem region places
chosen_inside problem region places is there k person =
    let line = chosen_line problem region places k there (omega (arith, is.covers)) in
    (line.0, line.1, λ p. ap (λ set. is_among set p) line.2)

-- ---- the one roster

pub number_of_owner : (problem : Problem) (region : Region) (k p : ℕ) → IsWhollyIn problem region (Has k p)
    → IsNumberOf problem region p k
number_of_owner problem region k p all places there = get_or_from_slice_get places p k 0 (all places there)

-- if all lines of each person are the same, a pairing that nobody's lines all have is open
pub number_of_nobody : (problem : Problem) (region : Region) (p : ℕ) → IsRegion problem region
    → IsDecided region → p < length problem.pairings
    → ((k : ℕ) → k < length problem.persons → IsUncertain region p k)
    → IsNumberOf problem region p (open_number problem)
number_of_nobody problem region p is decided inside uncertain places there =
    elim (number_of problem region p places there inside) [
      | inl free ↦ get_or_from_slice_get places p (open_number problem) 0 free
      | inr held ↦
          let k : ℕ = held.0 in
          let room : k < length region.choices = omega (arith, held.1, is.covers) in
          let line = chosen_line problem region places k there room in
          let has : is_among line.0.set p ≡ true =
          ap (λ set. is_among set p) line.2 ∙ among_from_Has k p places held.2 in
          let same = decided k (lines_of region k) (lines_of_get region k room) in
          let here =
          All-contains (λ (l : AllowedLine). (q : ℕ) → is_among l.set q ≡ is_among same.0 q)
          (lines_of region k) line.0 same.1 line.1 in
          let all =
          list_all-from_AllPass (λ (l : AllowedLine). is_among l.set p) (lines_of region k)
          (λ i d l. same.1 i d l p ∙ sym (here p) ∙ has) in
          absurd (both_ways (list_all (λ (l : AllowedLine). is_among l.set p) (lines_of region k)) (uncertain k held.1 (omega (arith, line.1.1))) all)
    ]

-- the rosters of a region agree with the list of numbers
pub only_one : (problem : Problem) (region : Region) (numbers : List ℕ)
    → length numbers ≡ length problem.pairings
    → ((p : ℕ) → p < length problem.pairings → IsNumberOf problem region p (get_or numbers p 0))
    → (others : List ℕ) → IsIn problem region others → others ≡ numbers
only_one problem region numbers covers each others there =
    same_lists others numbers (there.legal.covers ∙ sym covers) (λ p d inside.
    get_or_default others p d 0 inside
    ∙ each p (omega (arith, there.legal.covers)) others there
    ∙ get_or_default numbers p 0 d (omega (arith, covers, there.legal.covers)))

-- ---- open pairings, by sets

abbrev pub IsMeet : List ℕ → List ℕ → List ℕ → Type 0
IsMeet both left free = (p : ℕ) → is_among both p ≡ (is_among left p && is_among free p)

pub states_kept : (problem : Problem) (region : Region) (places free both : List ℕ)
    → ((p : ℕ) → is_among free p ≡ is_among (set_of (open_number problem) places) p)
    → IsMeet both region.left_open free → ((p : ℕ) → is_among both p ≡ is_among region.left_open p)
    → (((p : ℕ) × (is_among region.flown p ≡ true) × (is_among free p ≡ true)) → ⊥)
    → AreStatesKept problem region places
states_kept problem region places free both is meet same apart = record {
  left_open = λ p left. Has-from_among (open_number problem) p places (sym (is p) ∙ ap (λ b. b && is_among free p) (sym left) ∙ sym (meet p) ∙ same p ∙ left);
  flown = λ p flown has. apart (p, flown, is p ∙ among_from_Has (open_number problem) p places has);
}

pub states_same : (problem : Problem) (region : Region) (places free both : List ℕ)
    → ((p : ℕ) → is_among free p ≡ is_among (set_of (open_number problem) places) p)
    → IsMeet both region.left_open free → AreStatesKept problem region places → (p : ℕ)
    → is_among both p ≡ is_among region.left_open p
states_same problem region places free both is meet kept p = go (is_among region.left_open p) refl
  where
    go : (b : Bool) → is_among region.left_open p ≡ b → is_among both p ≡ is_among region.left_open p
    go true e =
        meet p ∙ ap (λ b. b && is_among free p) e ∙ is p
        ∙ among_from_Has (open_number problem) p places (kept.left_open p e) ∙ sym e
    go false e = meet p ∙ ap (λ b. b && is_among free p) e ∙ sym e

pub states_apart : (problem : Problem) (region : Region) (places free : List ℕ)
    → ((p : ℕ) → is_among free p ≡ is_among (set_of (open_number problem) places) p)
    → AreStatesKept problem region places
    → ((p : ℕ) × (is_among region.flown p ≡ true) × (is_among free p ≡ true)) → ⊥
states_apart problem region places free is kept (p, flown, here) =
    kept.flown p flown (Has-from_among (open_number problem) p places (sym (is p) ∙ here))
