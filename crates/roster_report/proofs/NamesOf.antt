-- The names of the pairings in a set, written one after another.
use Rattle.std.proofs.Common.{◌≡◌, ℕ, ◌+◌, ◌<◌, Bool, false, cond, eqb, eq-eqb, List, [], ◌∷◌, ◌++◌, length, map, take, get_or, Some, refl, sym, ap, ◌∙◌, append_assoc, arith}
use Rattle.std.specs.Prelude.{slice_get}
use Rattle.std.proofs.lemmas.List.{map-append, append-nil, length-append}
use Rattle.std.proofs.lemmas.Bool.{ne_eqb}
use Rattle.std.proofs.lemmas.List.Concat.{flat_map-append}
use Rattle.roster_model.specs.Problem.{Problem, pairing_name}
use Rattle.roster_model.specs.records.Pairing.{Pairing}
use Rattle.roster_model.specs.Places.{set_of}
use Rattle.roster_model.proofs.PlacesLemmas.{set_of-take_more}
use Rattle.roster_report.specs.Words.{spaced, further}

-- what is written for a set, as far as its names go
abbrev pub named : Problem → List ℕ → List ℕ
named problem set = further (map (pairing_name problem) set)

named-append : (problem : Problem) (xs ys : List ℕ)
    → named problem (xs ++ ys) ≡ named problem xs ++ named problem ys
named-append problem xs ys =
    ap further (map-append (pairing_name problem) xs ys)
    ∙ flat_map-append spaced (map (pairing_name problem) xs) (map (pairing_name problem) ys)

pairing_name-at : (problem : Problem) (p : ℕ) (pairing : Pairing)
    → slice_get problem.pairings p ≡ Some pairing → pairing_name problem p ≡ pairing.id
pairing_name-at problem p pairing at = rw at refl

named-one : (problem : Problem) (p : ℕ) (pairing : Pairing) → slice_get problem.pairings p ≡ Some pairing
    → named problem (p ∷ []) ≡ spaced pairing.id
named-one problem p pairing at =
    append-nil (spaced (pairing_name problem p)) ∙ ap spaced (pairing_name-at problem p pairing at)

-- one more number that is k
set_of-takes : (k p : ℕ) (places : List ℕ) → p < length places → get_or places p 0 ≡ k
    → set_of k (take (p + 1) places) ≡ set_of k (take p places) ++ p ∷ []
set_of-takes k p places within is =
    set_of-take_more k p places 0 within
    ∙ ap (λ (b : Bool). set_of k (take p places) ++ cond b (p ∷ []) []) (eq-eqb (get_or places p 0) k is)

pub named-takes : (problem : Problem) (k p : ℕ) (places : List ℕ) (pairing : Pairing) (word before now : List ℕ) → p < length places → get_or places p 0 ≡ k → slice_get problem.pairings p ≡ Some pairing → word ≡ pairing.id → now ≡ before ++ named problem (set_of k (take p places)) → now ++ spaced word ≡ before ++ named problem (set_of k (take (p + 1) places))
named-takes problem k p places pairing word before now within is at spelled so_far =
    let set = set_of k (take p places) in
    let more : named problem (set ++ p ∷ []) ≡ named problem set ++ spaced pairing.id =
    named-append problem set (p ∷ [])
    ∙ ap (λ (t : List ℕ). named problem set ++ t) (named-one problem p pairing at) in
    rw (spelled, set_of-takes k p places within is, more, so_far)
    (append_assoc before (named problem set) (spaced pairing.id))

pub some-takes : (k p : ℕ) (places : List ℕ) → p < length places → get_or places p 0 ≡ k
    → false ≡ eqb (length (set_of k (take (p + 1) places))) 0
some-takes k p places within is =
    sym (ne_eqb _ 0 (omega (arith, ap length (set_of-takes k p places within is), length-append (set_of k (take p places)) (p ∷ []))))

-- one more number that isn't
pub set_of-passes : (k p : ℕ) (places : List ℕ) → p < length places → (get_or places p 0 ≡ k → ⊥)
    → set_of k (take (p + 1) places) ≡ set_of k (take p places)
set_of-passes k p places within isnt =
    set_of-take_more k p places 0 within
    ∙ ap (λ (b : Bool). set_of k (take p places) ++ cond b (p ∷ []) []) (ne_eqb (get_or places p 0) k isnt)
    ∙ append-nil (set_of k (take p places))
