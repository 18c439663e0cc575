-- The first place at which a test passes, or the number of elements.
use Rattle.std.proofs.Common.{◌≡◌, ℕ, suc, ◌+◌, ◌≤◌, Bool, true, false, cond, not, List, [], ◌∷◌, length, Some, None, refl, arith}
use Rattle.std.specs.Prelude.{position, nat_lt, unwrap_or}
use Rattle.std.specs.List.{position_or_len}
use Rattle.std.proofs.lemmas.Bool.Decides.{nat_tests}

pub place_at_most : {X : Type 0} (p : X → Bool) (xs : List X) → position_or_len p xs ≤ length xs
place_at_most p [] = omega arith
place_at_most p (x ∷ xs) =
    let P : Bool → Type 0 = λ b. cond (not b) (1 + position_or_len p xs) 0 ≤ suc (length xs) in
    elim (p x) as P [ true ↦ omega arith | false ↦ omega (arith, place_at_most p xs) ]

or_len_by : (found : Bool) (i n : ℕ) → nat_lt i n ≡ found → i ≤ n → unwrap_or (cond found (Some i) None) n ≡ i
or_len_by true i n h most = refl
or_len_by false i n h most = grind (arith, nat_tests)

pub place_or_len : {X : Type 0} (p : X → Bool) (xs : List X)
    → unwrap_or (position p xs) (length xs) ≡ position_or_len p xs
place_or_len p xs =
    or_len_by (nat_lt (position_or_len p xs) (length xs)) (position_or_len p xs) (length xs) refl
    (place_at_most p xs)
