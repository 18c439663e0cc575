-- What is taken away where it is beyond a cut.
use Rattle.std.proofs.Common.{◌≡◌, ℕ, ◌*◌, ◌<◌, Bool, true, false, cond, eqb, eq-eqb, List, length, get_or, Some, ℤ, pos, ◌+ℤ◌, ◌-ℤ◌, ◌*ℤ◌, ◌≤ℤ◌, ◌<ℤ◌, refl, sym, ap, ◌∙◌, subst, inl, inr, arith}
use Rattle.std.specs.Prelude.{filter, int_le, MatchBool}
use Rattle.std.proofs.lemmas.Bool.{both_ways, cases_eq, ne_eqb}
use Rattle.std.proofs.lemmas.Int.{ints}
use Rattle.std.proofs.lemmas.Option.{get_or_from_slice_get, slice_get-get_or}
use Rattle.roster_model.specs.Costs.{total}
use Rattle.roster_model.specs.Places.{open_number, set_of}
use Rattle.roster_model.specs.Problem.{Problem}
use Rattle.roster_search_regions.specs.Prices.{price_at, value_of}
use Rattle.roster_search_regions.specs.Regions.{extra_of, lines_of, with_lines, Has, HasNot, IsIn, IsNarrowed, IsRegion, Region}
use Rattle.roster_search_regions.proofs.RegionLemmas.{narrowed_by_filter}
use Rattle.roster_search_regions.specs.Terms.{open_cost, penalty_at}
use Rattle.roster_search_fixing.specs.Bounds.{CostsAtMost, IsShareWithin, IsValueWithin}
use Rattle.roster_search_fixing.specs.declared.tightening.Bounds.{Bounds}
use Rattle.roster_search_fixing.specs.Tightening.{IsUse}
use Rattle.roster_search_fixing.proofs.BoundLemmas.{true-int_le, value_is}

-- lines beyond the cut are in no roster within the cost
pub lines_within : (problem : Problem) (region : Region) (prices : List ℤ) (k : ℕ) (most cut : ℤ)
    → IsRegion problem region → k < length problem.persons → IsValueWithin problem region prices k most cut
    → IsNarrowed problem (CostsAtMost problem most) region (with_lines region k (filter (λ line. int_le (value_of prices line) cut) (lines_of region k)))
lines_within problem region prices k most cut is person within =
    let inside : k < length region.choices = omega (arith, is.covers) in
    narrowed_by_filter problem (CostsAtMost problem most) region k
    (λ line. int_le (value_of prices line) cut) is inside
    (λ places line there costs among same. true-int_le (value_of prices line) cut (subst (λ z. z ≤ℤ cut) (sym (value_is problem region prices places k line is inside among same)) (within places there costs)))

-- what stays so in a part of the region
pub value_within_part : (problem : Problem) (whole region : Region) (prices : List ℤ) (k : ℕ) (most cut : ℤ)
    → IsNarrowed problem (CostsAtMost problem most) whole region
    → IsValueWithin problem whole prices k most cut → IsValueWithin problem region prices k most cut
value_within_part problem whole region prices k most cut part within places there costs =
    let same = ap (λ scale. pos scale *ℤ extra_of problem k (set_of k places) -ℤ total (price_at prices) (set_of k places)) part.scale in
    subst (λ z. z ≤ℤ cut) (sym same) (within places (part.inside places there) costs)

pub share_within_part : (problem : Problem) (whole region : Region) (prices : List ℤ) (paid : ℤ) (p : ℕ) (most cut : ℤ)
    → IsNarrowed problem (CostsAtMost problem most) whole region
    → IsShareWithin problem whole prices paid p most cut → IsShareWithin problem region prices paid p most cut
share_within_part problem whole region prices paid p most cut part within places there costs =
    let same = ap (λ scale. cond (eqb (get_or places p 0) (open_number problem)) (pos (scale * penalty_at problem p) -ℤ paid) (price_at prices p)) part.scale in
    subst (λ z. z ≤ℤ cut) (sym same) (within places (part.inside places there) costs)

-- a pairing that costs more than the cut if it is open isn't
pub flown_within : (problem : Problem) (region : Region) (prices : List ℤ) (paid : ℤ) (p : ℕ) (most cut : ℤ)
    → IsShareWithin problem region prices paid p most cut → cut <ℤ open_cost problem region paid p
    → (places : List ℕ) → IsIn problem region places → CostsAtMost problem most places
    → HasNot (open_number problem) p places
flown_within problem region prices paid p most cut within beyond places there costs has =
    let free =
    eq-eqb (get_or places p 0) (open_number problem)
    (get_or_from_slice_get places p (open_number problem) 0 has) in
    let share : open_cost problem region paid p ≤ℤ cut =
    subst (λ b. cond b (open_cost problem region paid p) (price_at prices p) ≤ℤ cut) free
    (within places there costs) in
    omega (arith, ints, share, beyond)

-- and one whose price is is
pub open_within : (problem : Problem) (region : Region) (prices : List ℤ) (paid : ℤ) (p : ℕ) (most cut : ℤ)
    → p < length problem.pairings → IsShareWithin problem region prices paid p most cut → cut <ℤ price_at prices p
    → (places : List ℕ) → IsIn problem region places → CostsAtMost problem most places
    → Has (open_number problem) p places
open_within problem region prices paid p most cut inside within beyond places there costs =
    let at = slice_get-get_or places p 0 (omega (arith, there.legal.covers)) in
    elim (cases_eq (get_or places p 0) (open_number problem)) [
      | inl same ↦ at ∙ ap Some same
      | inr other ↦
          let held = ne_eqb (get_or places p 0) (open_number problem) other in
          let share : price_at prices p ≤ℤ cut =
          subst (λ b. cond b (open_cost problem region paid p) (price_at prices p) ≤ℤ cut) held
          (within places there costs) in
          absurd (omega (arith, ints, share, beyond))
    ]

-- what a round counts on stays so in a part of the region
pub use_within_part : (problem : Problem) (whole region : Region) (prices : List ℤ) (paid : ℤ) (bounds : Bounds) (most : ℤ) → IsNarrowed problem (CostsAtMost problem most) whole region → IsUse problem whole prices paid bounds most → IsUse problem region prices paid bounds most
use_within_part problem whole region prices paid bounds most part use' = record {
  persons = use'.persons;
  pairings = use'.pairings;
  near = use'.near;
  is_slack = record {
    lines = λ k inside. value_within_part problem whole region prices k most (get_or bounds.values.items k (pos 0) +ℤ bounds.slack) part (use'.is_slack.lines k inside);
    pairings = λ p inside. share_within_part problem whole region prices paid p most (get_or bounds.terms.items p (pos 0) +ℤ bounds.slack) part (use'.is_slack.pairings p inside);
  };
}

-- the case that a test tells
pub match_true : (b : Bool) (P Q : Type 0) → b ≡ true → MatchBool b P Q → P
match_true true P Q e h = h
match_true false P Q e h = absurd (both_ways false refl e)

pub match_false : (b : Bool) (P Q : Type 0) → b ≡ false → MatchBool b P Q → Q
match_false true P Q e h = absurd (both_ways true e refl)
match_false false P Q e h = h
