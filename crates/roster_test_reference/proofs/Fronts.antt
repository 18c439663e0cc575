-- Lists that agree up to a place.
use Rattle.std.proofs.Common.{◌≡◌, ℕ, ◌+◌, ◌<◌, List, [], ◌∷◌, ◌++◌, length, get_or, take, set, sym, ap, ap₂, ◌∙◌, arith}
use Rattle.std.proofs.lemmas.List.{take_more, take_more_set, take-take}

-- they agree with the one that has this number there
pub front_more : (others places : List ℕ) (depth x : ℕ) → depth < length others → depth < length places
    → take depth others ≡ take depth places → get_or others depth 0 ≡ x
    → take (depth + 1) others ≡ take (depth + 1) (set places depth x)
front_more others places depth x inside within front number =
    take_more others depth 0 inside ∙ ap₂ (λ xs y. xs ++ y ∷ []) front number
    ∙ sym (take_more_set places depth x within)

-- and they agree up to the place before
pub front_less : (xs ys : List ℕ) (depth : ℕ) → take (depth + 1) xs ≡ take (depth + 1) ys
    → take depth xs ≡ take depth ys
front_less xs ys depth front =
    sym (take-take depth (depth + 1) xs (omega arith)) ∙ ap (take depth) front
    ∙ take-take depth (depth + 1) ys (omega arith)
