-- The front of a set, and what is behind.
use Rattle.std.proofs.Common.{◌≡◌, ℕ, ◌<◌, true, List, [], ◌∷◌, ◌++◌, ◌∙◌}
use Rattle.std.specs.Prelude.{All}
use Rattle.std.proofs.lemmas.Bool.{or_left, or_right}
use Rattle.std.proofs.lemmas.List.Elements.{All-nil, All-cons, All-tail}
use Rattle.roster_model.specs.Rules.{is_among}
use Rattle.roster_model.proofs.SetLemmas.{Ascends, is_among-append, is_among-here, All-is_among, All-from_is_among}

pub among_front : (front more : List ℕ) (p : ℕ) → is_among front p ≡ true → is_among (front ++ more) p ≡ true
among_front front more p h = is_among-append front more p ∙ or_left _ _ h

pub among_behind : (front more : List ℕ) (p : ℕ) → is_among more p ≡ true → is_among (front ++ more) p ≡ true
among_behind front more p h = is_among-append front more p ∙ or_right _ _ h

pub Ascends-parts : (front : List ℕ) (p : ℕ) (rest : List ℕ) → Ascends (front ++ p ∷ rest)
    → Ascends front × All (λ q. q < p) front × Ascends (p ∷ rest)
Ascends-parts [] p rest up = (tt, All-nil (λ q. q < p), up)
Ascends-parts (r ∷ front) p rest up =
    let parts = Ascends-parts front p rest up.1 in
    let here : r < p =
    All-is_among (λ q. r < q) (front ++ p ∷ rest) p up.0
    (among_behind front (p ∷ rest) p (is_among-here p rest)) in
    let above : All (λ q. r < q) front =
    All-from_is_among (λ q. r < q) front
    (λ q h. All-is_among (λ q. r < q) (front ++ p ∷ rest) q up.0 (among_front front (p ∷ rest) q h)) in
    ((above, parts.0), All-cons (λ q. q < p) r front here parts.1, parts.2)

pub All-behind : (P : ℕ → Type 0) (front rest : List ℕ) → All P (front ++ rest) → All P rest
All-behind P [] rest all = all
All-behind P (x ∷ front) rest all = All-behind P front rest (All-tail P x (front ++ rest) all)
