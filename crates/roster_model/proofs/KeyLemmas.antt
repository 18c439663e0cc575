-- Keys of rosters are in a total order.
use Rattle.std.proofs.Common.{◌≡◌, ℕ, List, ap₂, Bool, true, false, T, int_cmp, Ordering, Less, Equal, Greater, ◌⊎◌, ℤ, ◌<ℤ◌, int_lt, int_eq, refl, sym, ◌∙◌, subst, inl, inr, arith}
use Rattle.std.specs.Int.Signed.{lt_z_yes}
use Rattle.std.proofs.lemmas.Bool.{false≢true, or_cases, or_left, or_right, and_parts, and_from}
use Rattle.std.proofs.lemmas.Bool.Decides.{Decides-int_eq}
use Rattle.std.proofs.lemmas.Cmp.{int_ranked}
use Rattle.std.specs.Ordering.{MatchOrdering}
use Rattle.std.proofs.lemmas.Int.{ints}
use Rattle.roster_model.proofs.PlacesOrder.{places_le-refl, places_le-trans, places_le-antisym, places_le-total}
use Rattle.roster_model.specs.Places.{places_le}
use Rattle.roster_model.specs.Rosters.{Key, key_le}

-- ---- the keys

is_so : (b : Bool) → T b → b ≡ true
is_so true h = refl
is_so false h = absurd h

less_cost : (a b : ℤ) → int_lt a b ≡ true → a <ℤ b
less_cost a b h = lt_z_yes (subst T (sym h) tt)

key_cases : (a b : Key) → key_le a b ≡ true
    → (a.cost <ℤ b.cost) ⊎ ((a.cost ≡ b.cost) × (places_le a.places b.places ≡ true))
key_cases a b h =
    elim (or_cases (int_lt a.cost b.cost) _ h) [
      | inl less ↦ inl (less_cost a.cost b.cost less)
      | inr same ↦ let parts = and_parts (int_eq a.cost b.cost) _ same in inr ((Decides-int_eq a.cost b.cost).0 parts.0, parts.1)
    ]

by_cost : (a b : Key) → a.cost <ℤ b.cost → key_le a b ≡ true
by_cost a b h = or_left (int_lt a.cost b.cost) _ (is_so _ h.lt)

by_places : (a b : Key) → a.cost ≡ b.cost → places_le a.places b.places ≡ true → key_le a b ≡ true
by_places a b e h = or_right (int_lt a.cost b.cost) _ (and_from _ _ ((Decides-int_eq a.cost b.cost).1 e) h)

pub key_le-refl : (a : Key) → key_le a a ≡ true
key_le-refl a = by_places a a refl (places_le-refl a.places)

pub key_le-trans : (a b c : Key) → key_le a b ≡ true → key_le b c ≡ true → key_le a c ≡ true
key_le-trans a b c h g =
    elim (key_cases a b h) [
      | inl less ↦ by_cost a c (elim (key_cases b c g) [ inl more ↦ omega (arith, ints) | inr same ↦ subst (λ z. a.cost <ℤ z) same.0 less ])
      | inr same ↦ elim (key_cases b c g) [
        | inl more ↦ by_cost a c (subst (λ z. z <ℤ c.cost) (sym same.0) more)
        | inr also ↦ by_places a c (same.0 ∙ also.0) (places_le-trans a.places b.places c.places same.1 also.1)
      ]
    ]

key_le-same_cost : (a b : Key) → key_le a b ≡ true → key_le b a ≡ true → a.cost ≡ b.cost
key_le-same_cost a b h g =
    elim (key_cases a b h) [
      | inl less ↦ absurd (elim (key_cases b a g) [ inl more ↦ omega (arith, ints) | inr same ↦ omega (arith, ints, same.0) ])
      | inr same ↦ same.0
    ]

-- of keys that aren't after one another the places are one,
pub key_le-antisym : (a b : Key) → key_le a b ≡ true → key_le b a ≡ true → a.places ≡ b.places
key_le-antisym a b h g =
    elim (key_cases a b h) [
      | inl less ↦ absurd (elim (key_cases b a g) [ inl more ↦ omega (arith, ints) | inr same ↦ omega (arith, ints, same.0) ])
      | inr same ↦ elim (key_cases b a g) [
        | inl more ↦ absurd (omega (arith, ints, same.0))
        | inr also ↦ places_le-antisym a.places b.places same.1 also.1
      ]
    ]

-- and the keys are one
pub key_le-one : (a b : Key) → key_le a b ≡ true → key_le b a ≡ true → a ≡ b
key_le-one a b h g =
    let made : ℤ → List ℕ → Key = λ cost places. record { cost = cost; places = places } in
    ap₂ made (key_le-same_cost a b h g) (key_le-antisym a b h g)

ranked_costs : (x y : ℤ) (r : Ordering) → MatchOrdering r (x <ℤ y) (x ≡ y) (y <ℤ x)
    → (x ≡ y) ⊎ ((x <ℤ y) ⊎ (y <ℤ x))
ranked_costs x y Less h = inr (inl h)
ranked_costs x y Equal h = inl h
ranked_costs x y Greater h = inr (inr h)

costs_order : (x y : ℤ) → (x ≡ y) ⊎ ((x <ℤ y) ⊎ (y <ℤ x))
costs_order x y = ranked_costs x y (int_cmp x y) (int_ranked x y (int_cmp x y) refl)

pub key_le-total : (a b : Key) → (key_le a b ≡ true) ⊎ (key_le b a ≡ true)
key_le-total a b =
    elim (costs_order a.cost b.cost) [
      | inl same ↦ elim (places_le-total a.places b.places) [
        | inl h ↦ inl (by_places a b same h)
        | inr h ↦ inr (by_places b a (sym same) h)
      ]
      | inr apart ↦ elim apart [
        | inl less ↦ inl (by_cost a b less)
        | inr more ↦ inr (by_cost b a more)
      ]
    ]

-- of two keys the one that isn't the lesser is after the other
pub key_le-other : (a b : Key) → key_le a b ≡ false → key_le b a ≡ true
key_le-other a b h = elim (key_le-total a b) [ inl g ↦ absurd (false≢true (sym h ∙ g)) | inr g ↦ g ]
