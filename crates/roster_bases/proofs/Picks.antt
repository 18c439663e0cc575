-- Lists of places picked from two.
use Rattle.std.proofs.Common.{◌≡◌, ℕ, zero, suc, ◌+◌, ◌<◌, Bool, true, false, cond, ◌&&◌, ◌||◌, ltb, eqb, eq-eqb, List, [], ◌∷◌, length, get_or, refl, sym, ap, ap₂, ◌∙◌, arith}
use Rattle.std.proofs.lemmas.Bool.{le-ltb}
use Rattle.roster_model.specs.Costs.{open_penalties}
use Rattle.roster_model.specs.Places.{places_le}
use Rattle.roster_model.specs.records.Pairing.{Pairing}
use Rattle.roster_bases.specs.United.{pick}

pub length-pick : (test : ℕ → Bool) (p : ℕ) (xs ys : List ℕ) → length xs ≡ length ys
    → length (pick test p xs ys) ≡ length ys
length-pick test p [] [] same = refl
length-pick test p [] (y ∷ ys) same = absurd (omega (arith, same))
length-pick test p (x ∷ xs) [] same = absurd (omega (arith, same))
length-pick test p (x ∷ xs) (y ∷ ys) same =
    omega (arith, length-pick test (p + 1) xs ys (omega (arith, same)))

pub get_or-pick : (test : ℕ → Bool) (p i : ℕ) (xs ys : List ℕ) → length xs ≡ length ys → i < length ys
    → get_or (pick test p xs ys) i 0 ≡ cond (test (p + i)) (get_or xs i 0) (get_or ys i 0)
get_or-pick test p i [] [] same inside = absurd (omega (arith, inside))
get_or-pick test p i [] (y ∷ ys) same inside = absurd (omega (arith, same))
get_or-pick test p i (x ∷ xs) [] same inside = absurd (omega (arith, same))
get_or-pick test p zero (x ∷ xs) (y ∷ ys) same inside =
    let here : p ≡ p + 0 = omega arith in
    ap (λ q. cond (test q) x y) here
get_or-pick test p (suc i) (x ∷ xs) (y ∷ ys) same inside =
    let next : (p + 1) + i ≡ p + suc i = omega arith in
    get_or-pick test (p + 1) i xs ys (omega (arith, same)) (omega (arith, inside))
    ∙ ap (λ q. cond (test q) (get_or xs i 0) (get_or ys i 0)) next

-- ---- picked twice

pick_first : (b : Bool) (x y z : ℕ) → cond b (cond b x y) z ≡ cond b x z
pick_first true x y z = refl
pick_first false x y z = refl

pick_second : (b : Bool) (x y z : ℕ) → cond b z (cond b x y) ≡ cond b z y
pick_second true x y z = refl
pick_second false x y z = refl

pub pick-first : (test : ℕ → Bool) (p : ℕ) (xs ys zs : List ℕ) → length xs ≡ length ys → length ys ≡ length zs
    → pick test p (pick test p xs ys) zs ≡ pick test p xs zs
pick-first test p [] [] zs same also = refl
pick-first test p [] (y ∷ ys) zs same also = absurd (omega (arith, same))
pick-first test p (x ∷ xs) [] zs same also = absurd (omega (arith, same))
pick-first test p (x ∷ xs) (y ∷ ys) [] same also = absurd (omega (arith, also))
pick-first test p (x ∷ xs) (y ∷ ys) (z ∷ zs) same also =
    ap₂ (λ n rest. n ∷ rest) (pick_first (test p) x y z)
    (pick-first test (p + 1) xs ys zs (omega (arith, same)) (omega (arith, also)))

pub pick-second : (test : ℕ → Bool) (p : ℕ) (xs ys zs : List ℕ) → length xs ≡ length ys
    → length ys ≡ length zs → pick test p zs (pick test p xs ys) ≡ pick test p zs ys
pick-second test p [] [] [] same also = refl
pick-second test p [] [] (z ∷ zs) same also = absurd (omega (arith, also))
pick-second test p [] (y ∷ ys) zs same also = absurd (omega (arith, same))
pick-second test p (x ∷ xs) [] zs same also = absurd (omega (arith, same))
pick-second test p (x ∷ xs) (y ∷ ys) [] same also = absurd (omega (arith, also))
pick-second test p (x ∷ xs) (y ∷ ys) (z ∷ zs) same also =
    ap₂ (λ n rest. n ∷ rest) (pick_second (test p) x y z)
    (pick-second test (p + 1) xs ys zs (omega (arith, same)) (omega (arith, also)))

-- ---- the exchange law of lists

same_heads : (x : ℕ) (rest : Bool) → (ltb x x || (eqb x x && rest)) ≡ rest
same_heads x rest = rw (le-ltb x x (omega arith), eq-eqb x x refl) refl

exchange_heads : (b : Bool) (x y : ℕ) (left right : Bool) → left ≡ right
    → (ltb x (cond b y x) || (eqb x (cond b y x) && left)) ≡ (ltb (cond b x y) y || (eqb (cond b x y) y && right))
exchange_heads true x y left right same = ap (λ rest. ltb x y || (eqb x y && rest)) same
exchange_heads false x y left right same = same_heads x left ∙ same ∙ sym (same_heads y right)

-- a list that differs from the first only where the test says yes, and one that does from the second
-- elsewhere
pub places_le-pick : (test : ℕ → Bool) (p : ℕ) (xs ys : List ℕ) → length xs ≡ length ys
    → places_le xs (pick test p ys xs) ≡ places_le (pick test p xs ys) ys
places_le-pick test p [] [] same = refl
places_le-pick test p [] (y ∷ ys) same = absurd (omega (arith, same))
places_le-pick test p (x ∷ xs) [] same = absurd (omega (arith, same))
places_le-pick test p (x ∷ xs) (y ∷ ys) same =
    exchange_heads (test p) x y _ _ (places_le-pick test (p + 1) xs ys (omega (arith, same)))

exchange_heads_others : (b : Bool) (x y : ℕ) (left right : Bool) → left ≡ right
    → (ltb x (cond b x y) || (eqb x (cond b x y) && left)) ≡ (ltb (cond b y x) y || (eqb (cond b y x) y && right))
exchange_heads_others false x y left right same = ap (λ rest. ltb x y || (eqb x y && rest)) same
exchange_heads_others true x y left right same = same_heads x left ∙ same ∙ sym (same_heads y right)

-- a list that differs from the first elsewhere, and one that does from the second where the test says yes
pub places_le-pick_others : (test : ℕ → Bool) (p : ℕ) (xs ys : List ℕ) → length xs ≡ length ys
    → places_le xs (pick test p xs ys) ≡ places_le (pick test p ys xs) ys
places_le-pick_others test p [] [] same = refl
places_le-pick_others test p [] (y ∷ ys) same = absurd (omega (arith, same))
places_le-pick_others test p (x ∷ xs) [] same = absurd (omega (arith, same))
places_le-pick_others test p (x ∷ xs) (y ∷ ys) same =
    exchange_heads_others (test p) x y _ _ (places_le-pick_others test (p + 1) xs ys (omega (arith, same)))

-- ---- what stays open

open_heads : (b : Bool) (nobody penalty x y : ℕ)
    → cond (eqb (cond b x y) nobody) penalty 0 + cond (eqb (cond b y x) nobody) penalty 0 ≡ cond (eqb x nobody) penalty 0 + cond (eqb y nobody) penalty 0
open_heads true nobody penalty x y = refl
open_heads false nobody penalty x y = omega arith

pub open_penalties-pick : (nobody : ℕ) (pairings : List Pairing) (test : ℕ → Bool) (p : ℕ) (xs ys : List ℕ)
    → length xs ≡ length ys
    → open_penalties nobody pairings (pick test p xs ys) + open_penalties nobody pairings (pick test p ys xs) ≡ open_penalties nobody pairings xs + open_penalties nobody pairings ys
open_penalties-pick nobody [] test p xs ys same = refl
open_penalties-pick nobody (pairing ∷ pairings) test p [] [] same = refl
open_penalties-pick nobody (pairing ∷ pairings) test p [] (y ∷ ys) same = absurd (omega (arith, same))
open_penalties-pick nobody (pairing ∷ pairings) test p (x ∷ xs) [] same = absurd (omega (arith, same))
open_penalties-pick nobody (pairing ∷ pairings) test p (x ∷ xs) (y ∷ ys) same =
    let rest = open_penalties-pick nobody pairings test (p + 1) xs ys (omega (arith, same)) in
    let here = open_heads (test p) nobody pairing.penalty x y in
    omega (arith, rest, here)
