-- What the lines that are left say of who has a pairing.
use Rattle.std.proofs.Common.{◌≡◌, ◌≢◌, ℕ, ◌<◌, ◌≤◌, Bool, true, false, ◌||◌, List, length, get_or, Some, refl, sym, ap, ◌∙◌, subst, ◌⊎◌, inl, inr, arith}
use Rattle.std.specs.List.{list_any}
use Rattle.std.proofs.lemmas.Bool.{both_ways, cases_eq}
use Rattle.std.proofs.lemmas.List.Folds.{list_any_at}
use Rattle.std.proofs.lemmas.List.Sums.{AllPass-from_list_all}
use Rattle.std.proofs.lemmas.List.Elements.{All-contains}
use Rattle.std.proofs.lemmas.Option.{slice_get-get_or}
use Rattle.roster_model.specs.Places.{open_number}
use Rattle.roster_model.specs.Problem.{Problem}
use Rattle.roster_model.specs.Rules.{is_among}
use Rattle.roster_search_regions.specs.Regions.{lines_of, AllowedLine, Has, HasNone, HasNot, IsIn, IsRegion, IsWhollyIn, Region}
use Rattle.roster_search_regions.specs.Trees.{AreCertain}
use Rattle.roster_search_regions.proofs.RegionLemmas.{among_from_Has, chosen_line, Has-from_among}
use Rattle.roster_search_fixing.specs.Propagation.{Lacks}

-- what all of a person's lines have the person has
pub owner_has : (problem : Problem) (region : Region) (k p : ℕ) (certain : List ℕ) → IsRegion problem region
    → k < length problem.persons → AreCertain (lines_of region k) certain → 0 < length (lines_of region k)
    → is_among certain p ≡ true → IsWhollyIn problem region (Has k p)
owner_has problem region k p certain is person are some has places there =
    let found = chosen_line problem region places k there (omega (arith, is.covers)) in
    let all =
    AllPass-from_list_all (λ (line : AllowedLine). is_among line.set p) (lines_of region k)
    (sym (are some p) ∙ has) in
    let here =
    All-contains (λ (line : AllowedLine). is_among line.set p ≡ true)
    (lines_of region k) found.0 all found.1 in
    Has-from_among k p places (ap (λ set. is_among set p) (sym found.2) ∙ here)

-- and what none has the person hasn't
pub lacks_has : (problem : Problem) (region : Region) (k p : ℕ) (places : List ℕ) → IsRegion problem region
    → k < length problem.persons → Lacks region p k → IsIn problem region places → HasNot k p places
lacks_has problem region k p places is person lacks there has =
    let found = chosen_line problem region places k there (omega (arith, is.covers)) in
    let among : is_among found.0.set p ≡ true =
    ap (λ set. is_among set p) found.2 ∙ among_from_Has k p places has in
    let some =
    list_any_at (λ (line : AllowedLine). is_among line.set p)
    (lines_of region k) found.1.0 found.0 found.1.1
    (ap (λ (line : AllowedLine). is_among line.set p) found.1.2 ∙ among) in
    both_ways (list_any (λ (line : AllowedLine). is_among line.set p) (lines_of region k)) lacks some

-- if one person has it, another hasn't
pub other_has : (owner k p : ℕ) (places : List ℕ) → k ≢ owner → Has owner p places → HasNot k p places
other_has owner k p places other has too =
    let both : Some k ≡ Some owner = sym too ∙ has in
    let same : k ≡ owner = cc in
    other same

-- of two sets together the person has none if that is so of each
pub none_more : (k : ℕ) (one other both places : List ℕ) → ((p : ℕ) → is_among both p ≡ (is_among one p || is_among other p))
    → HasNone k one places → HasNone k other places → HasNone k both places
none_more k one other both places are first second p among = go (is_among one p) refl (sym (are p) ∙ among)
  where
    go : (b : Bool) → is_among one p ≡ b → (is_among one p || is_among other p) ≡ true → HasNot k p places
    go true e either = first p e
    go false e either = second p (ap (λ b. b || is_among other p) (sym e) ∙ either)

-- the number of a pairing is a person's or the one for open
pub number_of : (problem : Problem) (region : Region) (p : ℕ) (places : List ℕ) → IsIn problem region places
    → p < length problem.pairings
    → (Has (open_number problem) p places) ⊎ ((k : ℕ) × (k < length problem.persons) × Has k p places)
number_of problem region p places there inside =
    let room : p < length places = omega (arith, there.legal.covers) in
    let at = slice_get-get_or places p 0 room in
    let most : get_or places p 0 ≤ length problem.persons = there.legal.numbers p 0 room in
    elim (cases_eq (get_or places p 0) (length problem.persons)) [
      | inl nobody ↦ inl (at ∙ ap Some nobody)
      | inr other ↦ inr (get_or places p 0, omega arith, at)
    ]

pub nobody_has : (problem : Problem) (region : Region) (p : ℕ) → IsRegion problem region
    → p < length problem.pairings → ((j : ℕ) → j < length problem.persons → Lacks region p j)
    → IsWhollyIn problem region (Has (open_number problem) p)
nobody_has problem region p is inside lack places there =
    elim (number_of problem region p places there inside) [
      | inl free ↦ free
      | inr held ↦ absurd (lacks_has problem region held.0 p places is held.1 (lack held.0 held.1) there held.2)
    ]

pub one_has : (problem : Problem) (region : Region) (p sole : ℕ) → IsRegion problem region
    → p < length problem.pairings → ((j : ℕ) → j < length problem.persons → j ≢ sole → Lacks region p j)
    → IsWhollyIn problem region (λ places. HasNot (open_number problem) p places → Has sole p places)
one_has problem region p sole is inside lack places there flown =
    elim (number_of problem region p places there inside) [
      | inl free ↦ absurd (flown free)
      | inr held ↦ elim (cases_eq held.0 sole) [
        | inl same ↦ subst (λ k. Has k p places) same held.2
        | inr other ↦ absurd (lacks_has problem region held.0 p places is held.1 (lack held.0 held.1 other) there held.2)
      ]
    ]

-- ---- one person more
