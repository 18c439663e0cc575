-- The order of keys, by costs and by lists.
use Rattle.std.proofs.Common.{◌≡◌, Bool, true, false, refl, sym, subst, inl, inr, T, ◌<ℤ◌, ◌≤ℤ◌, int_lt, int_eq, arith}
use Rattle.std.specs.Int.Signed.{lt_z_yes}
use Rattle.std.proofs.lemmas.Bool.{or_cases, or_left, or_right, and_parts, and_from}
use Rattle.std.proofs.lemmas.Bool.Decides.{Decides-int_eq}
use Rattle.std.proofs.lemmas.Int.{ints}
use Rattle.roster_model.specs.Places.{places_le}
use Rattle.roster_model.specs.Rosters.{Key, key_le}

is_so : (b : Bool) → T b → b ≡ true
is_so true h = refl
is_so false h = absurd h

pub by_cost : (a b : Key) → a.cost <ℤ b.cost → key_le a b ≡ true
by_cost a b h = or_left (int_lt a.cost b.cost) _ (is_so _ h.lt)

pub by_places : (a b : Key) → a.cost ≡ b.cost → places_le a.places b.places ≡ true → key_le a b ≡ true
by_places a b e h = or_right (int_lt a.cost b.cost) _ (and_from _ _ ((Decides-int_eq a.cost b.cost).1 e) h)

-- a key that isn't after another costs no more
pub no_dearer : (a b : Key) → key_le a b ≡ true → a.cost ≤ℤ b.cost
no_dearer a b h =
    elim (or_cases (int_lt a.cost b.cost) _ h) [
      | inl less ↦ let below : a.cost <ℤ b.cost = lt_z_yes (subst T (sym less) tt) in omega (arith, ints)
      | inr same ↦ let equal : a.cost ≡ b.cost = (Decides-int_eq a.cost b.cost).0 (and_parts (int_eq a.cost b.cost) _ same).0 in omega (arith, ints)
    ]
