-- Lists of places compared from a place on.
use Rattle.std.proofs.Common.{◌≡◌, ℕ, ◌+◌, ◌<◌, ◌≤◌, true, ltb, eq-eqb, List, ◌∷◌, length, drop, get_or, ap₂, ◌∙◌, inl, inr, arith}
use Rattle.std.specs.Prelude.{slice_get, Some}
use Rattle.std.proofs.lemmas.Bool.{cases_lt, ltb-true, or_right, and_from}
use Rattle.std.proofs.lemmas.List.{drop_more}
use Rattle.std.proofs.lemmas.Option.{slice_get-get_or}
use Rattle.roster_model.specs.Places.{places_le}
use Rattle.roster_model.proofs.PlacesOrder.{by_less}

heads : (xs ys : List ℕ) (p : ℕ) → p < length xs → length xs ≡ length ys → places_le (drop p xs) (drop p ys) ≡ places_le (get_or xs p 0 ∷ drop (p + 1) xs) (get_or ys p 0 ∷ drop (p + 1) ys)
heads xs ys p inside long = ap₂ places_le (drop_more xs p 0 inside) (drop_more ys p 0 (omega (arith, long)))

pub earlier_head : (xs ys : List ℕ) (p least : ℕ) → p < length xs → length xs ≡ length ys
    → ((x : ℕ) → slice_get ys p ≡ Some x → least ≤ x) → ltb (get_or xs p 0) least ≡ true
    → places_le (drop p xs) (drop p ys) ≡ true
earlier_head xs ys p least inside long most less =
    let x = most (get_or ys p 0) (slice_get-get_or ys p 0 (omega (arith, long))) in
    heads xs ys p inside long ∙ by_less (get_or xs p 0) (get_or ys p 0) (drop (p + 1) xs) (drop (p + 1) ys) (omega (arith, x, ltb-true (get_or xs p 0) least less))

pub same_head : (xs ys : List ℕ) (p least : ℕ) → p < length xs → length xs ≡ length ys
    → ((x : ℕ) → slice_get ys p ≡ Some x → least ≤ x) → get_or xs p 0 ≡ least
    → places_le (drop (p + 1) xs) (drop (p + 1) ys) ≡ true → places_le (drop p xs) (drop p ys) ≡ true
same_head xs ys p least inside long most same rest =
    let a : ℕ = get_or xs p 0 in
    let b : ℕ = get_or ys p 0 in
    let x = most b (slice_get-get_or ys p 0 (omega (arith, long))) in
    heads xs ys p inside long ∙ elim (cases_lt a b) [
      | inl less ↦ by_less a b (drop (p + 1) xs) (drop (p + 1) ys) less
      | inr on ↦ or_right (ltb a b) _ (and_from _ _ (eq-eqb a b (omega (arith, on, x, same))) rest)
    ]
