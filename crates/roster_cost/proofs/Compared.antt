-- The code's comparison of keys is the order of keys.
use Rattle.std.proofs.Common.{◌≡◌, ℕ, Bool, true, false, not, cond, ◌&&◌, ◌||◌, List, ℤ, arith, int_lt, int_eq, nat_cmp, is_eq, is_le, is_lt, Ordering, Less, Equal, Greater, refl, ap, ap₂, ◌∙◌}
use Rattle.std.specs.Prelude.{◌↔◌}
use Rattle.std.specs.Ordering.{ordering_reverse, ordering_then}
use Rattle.std.specs.Cmp.{IsTotalOrder}
use Rattle.std.specs.Cmp.Lexicographic.{slice_cmp}
use Rattle.std.proofs.lemmas.Bool.{and_parts, and_from}
use Rattle.std.proofs.lemmas.Bool.Decides.{Decides-int_eq, nat_tests}
use Rattle.std.proofs.lemmas.Cmp.{same_from_slice_cmp, then_total, on_total, int_cmp_total, nat_list_cmp_total}
use Rattle.std.proofs.lemmas.Slice.Eq.{bytes_eq-Decides}
use Rattle.roster_model.specs.Places.{places_le}
use Rattle.roster_model.specs.Rosters.{Key, key_le}
use Rattle.roster_cost.specs.Keys.{compare, is_same}

lists : (xs ys : List ℕ) → is_le (slice_cmp nat_cmp xs ys) ≡ places_le xs ys
lists xs ys =
    same_from_slice_cmp nat_cmp is_le places_le refl (λ _ _. refl) (λ _ _. refl)
    (λ x y xs ys o h. grind (arith, nat_tests)) xs ys (slice_cmp nat_cmp xs ys) refl

costs_first : (less more : Bool) (o : Ordering)
    → is_le (ordering_then (cond less Less (cond more Greater Equal)) o) ≡ (less || (is_eq (cond less Less (cond more Greater Equal)) && is_le o))
costs_first true more o = refl
costs_first false true o = refl
costs_first false false o = refl

pub compare-le : (a b : Key) → is_le (compare a b) ≡ key_le a b
compare-le a b =
    costs_first (int_lt a.cost b.cost) (int_lt b.cost a.cost) (slice_cmp nat_cmp a.places b.places)
    ∙ ap (λ rest. int_lt a.cost b.cost || int_eq a.cost b.cost && rest) (lists a.places b.places)

compare-total : IsTotalOrder compare
compare-total =
    then_total (on_total (λ (key : Key). key.cost) int_cmp_total)
    (on_total (λ (key : Key). key.places) nat_list_cmp_total)

turned : (o : Ordering) → is_lt (ordering_reverse o) ≡ not (is_le o)
turned Less = refl
turned Equal = refl
turned Greater = refl

pub compare-lt : (a b : Key) → is_lt (compare a b) ≡ not (key_le b a)
compare-lt a b = ap is_lt (compare-total.antisymm a b) ∙ turned (compare b a) ∙ ap not (compare-le b a)

key : ℤ → List ℕ → Key
key cost places = record { cost = cost; places = places }

pub is_same-decides : (a b : Key) → (is_same a b ≡ true) ↔ (a ≡ b)
unfolding key
is_same-decides a b = (
  λ h. let parts = and_parts (int_eq a.cost b.cost) _ h in
      ap₂ key ((Decides-int_eq a.cost b.cost).0 parts.0) ((bytes_eq-Decides a.places b.places).0 parts.1),
  λ e. and_from _ _ ((Decides-int_eq a.cost b.cost).1 (ap (λ (k : Key). k.cost) e)) ((bytes_eq-Decides a.places b.places).1 (ap (λ (k : Key). k.places) e)),
)
