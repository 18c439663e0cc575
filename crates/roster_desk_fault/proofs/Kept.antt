-- Where records stand of which none is left out.
use Rattle.std.proofs.Common.{◌≡◌, ◌+◌, ◌∷◌, [], ℕ, All, Bool, List, ap, arith, length, refl, take, true}
use Rattle.std.specs.List.{count_by}
use Rattle.std.proofs.lemmas.List.{length-take-le}
use Rattle.std.proofs.lemmas.List.Sums.{sum_by-append}
use Rattle.std.proofs.lemmas.List.Elements.{All-head, All-tail, All-take}
use Rattle.roster_desk_fault.specs.Firsts.{AreKept, IsKeptAt, is_kept}
use Rattle.roster_desk_fault.specs.declared.rows.Record.{Record}

count_of_all : {X : Type 0} (p : X → Bool) (xs : List X) → All (λ x. p x ≡ true) xs → count_by p xs ≡ length xs
count_of_all p [] all = refl
count_of_all p (x ∷ xs) all =
    let here = All-head (λ x. p x ≡ true) x xs all in
    let rest = count_of_all p xs (All-tail (λ x. p x ≡ true) x xs all) in
    let both : count_by p (x ∷ xs) ≡ count_by p (x ∷ []) + count_by p xs = sum_by-append _ (x ∷ []) xs in
    let one : count_by p (x ∷ []) ≡ 1 = ap (λ c. count_by (λ y. c) (x ∷ [])) here in
    omega (arith, both, one, rest)

-- the n-th of all records stands behind so many others
pub place_of_kept : (rows : List Record) (n at : ℕ) → AreKept rows → IsKeptAt rows n at → at + 1 ≡ n
place_of_kept rows n at kept is =
    let all = count_of_all is_kept (take (at + 1) rows) (All-take (λ row. is_kept row ≡ true) (at + 1) rows kept) in
    let long = length-take-le (at + 1) rows (omega (arith, is.within)) in
    omega (arith, all, long, is.kept)
