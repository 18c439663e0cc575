-- Lists of places with a common front.
use Rattle.std.proofs.Common.{◌≡◌, ℕ, suc, ◌+◌, ◌<◌, true, List, ◌∷◌, ◌++◌, take, drop, Some, sym, ap, ap₂, ◌∙◌}
use Rattle.std.specs.Prelude.{slice_get}
use Rattle.std.proofs.Math.Seq.{drop-cons}
use Rattle.std.proofs.lemmas.List.{take-append-drop, take_more_same}
use Rattle.std.proofs.lemmas.Option.{get_or_from_slice_get, slice_get_within}
use Rattle.roster_model.specs.Places.{places_le}
use Rattle.roster_model.proofs.PlacesOrder.{by_less, places_le-append}

-- a list as its front, a number and the rest
split_at : (xs : List ℕ) (p x : ℕ) → slice_get xs p ≡ Some x → xs ≡ take p xs ++ x ∷ drop (suc p) xs
split_at xs p x at =
    let inside = slice_get_within xs p x at in
    sym (take-append-drop p xs) ∙ ap (λ rest. take p xs ++ rest) (drop-cons xs p x inside)
    ∙ ap (λ y. take p xs ++ y ∷ drop (suc p) xs) (get_or_from_slice_get xs p x x at)

-- behind a common front the list with the lesser number comes first
pub before_by_number : (p x y : ℕ) (xs ys : List ℕ) → take p xs ≡ take p ys → slice_get xs p ≡ Some x
    → slice_get ys p ≡ Some y → x < y → places_le xs ys ≡ true
before_by_number p x y xs ys front here there less =
    let left = split_at xs p x here in
    let right = split_at ys p y there ∙ ap (λ zs. zs ++ y ∷ drop (suc p) ys) (sym front) in
    ap₂ places_le left right
    ∙ places_le-append (take p xs) (x ∷ drop (suc p) xs) (y ∷ drop (suc p) ys)
    ∙ by_less x y (drop (suc p) xs) (drop (suc p) ys) less

-- with the same number the front is longer
pub same_number_more : (p x : ℕ) (xs ys : List ℕ) → take p xs ≡ take p ys → slice_get xs p ≡ Some x
    → slice_get ys p ≡ Some x → take (p + 1) xs ≡ take (p + 1) ys
same_number_more p x xs ys front here there =
    take_more_same xs ys p x (slice_get_within xs p x here) (slice_get_within ys p x there) front
    (get_or_from_slice_get xs p x x here ∙ sym (get_or_from_slice_get ys p x x there))
