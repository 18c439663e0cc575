-- Parts of a box by ranges of lines.
use Rattle.std.proofs.Common.{◌≡◌, ℕ, ◌<◌, true, false, cond, eqb, List, [], length, Some, ℤ, Option, None, sym, ap, ◌∙◌, subst, inl, inr, arith}
use Rattle.std.specs.Prelude.{slice_get}
use Rattle.std.proofs.lemmas.Bool.{cases_Bool}
use Rattle.std.proofs.lemmas.List.{length-map}
use Rattle.std.proofs.lemmas.Option.{same_Some, slice_get_within}
use Rattle.roster_model.specs.Places.{set_of}
use Rattle.roster_model.specs.Problem.{Problem}
use Rattle.roster_model.specs.Rosters.{IsLegalRoster, Key}
use Rattle.roster_model.specs.Settled.{Anywhere, Settles}
use Rattle.roster_model.proofs.SettledLemmas.{Settles-wider, Settles-within}
use Rattle.roster_model.proofs.LineLemmas.{given_line}
use Rattle.roster_lines_table.specs.Entries.{Entry, sets_of}
use Rattle.roster_lines_table.specs.Person.{IsOfTable, lines_at, AreListed, IsTableOf}
use Rattle.roster_lines_table.proofs.TableLemmas.{all_lines_in_table, first_line}
use Rattle.roster_bases.specs.Bases.{base_of_person, only}
use Rattle.roster_bases.proofs.BaseLemmas.{found_at}
use Rattle.roster_search_regions.specs.Regions.{IsInRanges}
use Rattle.roster_search_least.specs.Least.{IsLeastBelow}
use Rattle.roster_search_least.specs.Parts.{AreOwnRanges, AreWhole, IsInPart, IsNumbered}

-- ---- the ranges of a base

module _ (problem : Problem) (table : List (List Entry)) (ranges own : List (ℕ × ℕ)) (base : ℕ)
    (is : AreListed problem table) (covers : length ranges ≡ length problem.persons)
    (are : AreOwnRanges problem base ranges own) where
  choice : ℕ → ℕ × ℕ → ℕ × ℕ
  choice k range = cond (eqb (base_of_person problem k) base) range (0, 1)

  own_here : (k : ℕ) (range : ℕ × ℕ) → slice_get ranges k ≡ Some range
      → eqb (base_of_person problem k) base ≡ true → slice_get own k ≡ Some range
  own_here k range at here = are.each k range at ∙ ap (λ b. Some (cond b range (0, 1))) here

  own_elsewhere : (k : ℕ) (range : ℕ × ℕ) → slice_get ranges k ≡ Some range
      → eqb (base_of_person problem k) base ≡ false → slice_get own k ≡ Some (0, 1)
  own_elsewhere k range at none = are.each k range at ∙ ap (λ b. Some (cond b range (0, 1))) none

  -- the line whose number is below 1
  empty_from_number : (k : ℕ) (set : List ℕ) → k < length problem.persons → IsNumbered table k (0, 1) set
      → set ≡ []
  empty_from_number k set person numbered =
      let first : numbered.0 ≡ 0 = omega (arith, numbered.2) in
      let there = subst (λ i. slice_get (sets_of (lines_at table k)) i ≡ Some set) first numbered.3 in
      same_Some _ _ (sym there ∙ first_line problem table k is person)

  pub in_part_from_ranges : (places : List ℕ) → IsLegalRoster problem places → IsInRanges table own places
      → IsInPart problem table ranges (only base) places
  in_part_from_ranges places legal inside = record {
    legal = legal;
    numbered = λ k range at here. inside k range (own_here k range at here);
    home = λ k person none.
        let range = found_at ranges k (omega (arith, person)) in
        empty_from_number k (set_of k places) person (inside k (0, 1) (own_elsewhere k range.0 range.1 none));
  }

  pub in_ranges_from_part : (places : List ℕ) → IsInPart problem table ranges (only base) places
      → IsInRanges table own places
  in_ranges_from_part places part k mine at =
      let person : k < length problem.persons = omega (arith, slice_get_within own k mine at, are.covers) in
      let range = found_at ranges k (omega (arith, person)) in
      elim (cases_Bool (eqb (base_of_person problem k) base)) [
        | inl here ↦
            let same : mine ≡ range.0 = same_Some _ _ (sym at ∙ own_here k range.0 range.1 here) in
            subst (λ r. IsNumbered table k r (set_of k places)) (sym same)
            (part.numbered k range.0 range.1 here)
        | inr none ↦
            let same : mine ≡ (0, 1) = same_Some _ _ (sym at ∙ own_elsewhere k range.0 range.1 none) in
            let empty = part.home k person none in
            subst (λ r. IsNumbered table k r (set_of k places)) (sym same)
            (0, omega arith, omega arith, first_line problem table k is person ∙ ap (λ (set : List ℕ). Some set) (sym empty))
      ]

-- ---- the same region by another name

pub least_in_other : (problem : Problem) (Region Other : List ℕ → Type 0) (limit : ℤ) (found : Option Key)
    → ((places : List ℕ) → Region places → Other places)
    → ((places : List ℕ) → IsLegalRoster problem places → Other places → Region places)
    → IsLeastBelow problem Region limit found → IsLeastBelow problem Other limit found
least_in_other problem Region Other limit None there back least =
    λ others legal inside. least others legal (back others legal inside)
least_in_other problem Region Other limit (Some key) there back least = (
  record {
    held = least.0.held;
    inside = there key.places least.0.inside;
    least = λ others legal inside. least.0.least others legal (back others legal inside);
  },
  least.1,
)

-- ---- all lines

-- in the ranges of all lines is who has lines of the table
pub of_whole : (table : List (List Entry)) (ranges : List (ℕ × ℕ)) (places : List ℕ)
    → AreWhole table (length table) ranges → IsInRanges table ranges places → IsOfTable table places
of_whole table ranges places are inside k here =
    let found = inside k (0, length (lines_at table k)) (are.each k here) in
    (found.0, found.3)

pub in_whole_of : (table : List (List Entry)) (ranges : List (ℕ × ℕ)) (places : List ℕ)
    → AreWhole table (length table) ranges → IsOfTable table places → IsInRanges table ranges places
in_whole_of table ranges places are is k range at =
    let inside : k < length table = omega (arith, slice_get_within ranges k range at, are.covers) in
    let found = is k inside in
    let whole : range ≡ (0, length (lines_at table k)) = same_Some _ _ (sym at ∙ are.each k inside) in
    let below : found.0 < length (lines_at table k) = omega (arith, slice_get_within (sets_of (lines_at table k)) found.0 (set_of k places) found.1, length-map (lines_at table k) (λ entry. entry.set)) in
    subst (λ (r : ℕ × ℕ). IsNumbered table k r (set_of k places)) (sym whole)
    (found.0, omega arith, below, found.1)

-- each legal roster has lines in the ranges of all lines
pub in_whole : (problem : Problem) (table : List (List Entry)) (ranges : List (ℕ × ℕ)) (places : List ℕ)
    → IsTableOf problem table → AreWhole table (length table) ranges → IsLegalRoster problem places
    → IsInRanges table ranges places
in_whole problem table ranges places is are legal =
    in_whole_of table ranges places are
    (λ k inside.
    let person : k < length problem.persons =
    omega (arith, inside, is.sets.covers, length-map table sets_of) in
    (all_lines_in_table problem table k is person).every (set_of k places)
    (given_line problem k places legal person))

-- so what settles those settles all
pub settles_all : (problem : Problem) (table : List (List Entry)) (ranges : List (ℕ × ℕ)) (known : Option Key) (new : Key) → IsTableOf problem table → AreWhole table (length table) ranges → Settles problem (IsInRanges table ranges) (IsInRanges table ranges) known new → Settles problem Anywhere Anywhere known new
settles_all problem table ranges known new is are settled =
    Settles-wider problem Anywhere (IsInRanges table ranges) Anywhere known new
    (Settles-within problem (IsInRanges table ranges) Anywhere (IsInRanges table ranges) known new settled (λ others legal _. in_whole problem table ranges others is are legal))
    (λ places legal inside. tt)
