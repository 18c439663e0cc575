-- What is fixed and the rest together.
use Rattle.std.proofs.Common.{◌≡◌, ℕ, zero, suc, ◌+◌, ◌<◌, ◌≤◌, List, [], ◌∷◌, length, map, Option, Some, None, refl, sym, ap, ◌∙◌, arith}
use Rattle.std.specs.Prelude.{slice_get}
use Rattle.std.proofs.lemmas.List.{length-map}
use Rattle.roster_model.specs.Problem.{Problem}
use Rattle.roster_desk_repair_terms.specs.Fixed.{rank, staying, unnumbered, whole}
use Rattle.roster_desk_repair_terms.specs.Repaired.{AreUnitsFrom, IsRepair}

-- the rest has a number for each pairing that is rostered anew
abbrev pub Fits : List (Option ℕ) → List ℕ → Type 0
Fits [] rest = rest ≡ []
Fits (Some n ∷ fixed) rest = Fits fixed rest
Fits (None ∷ fixed) [] = ⊥
Fits (None ∷ fixed) (x ∷ rest) = Fits fixed rest

pub fits_by_length : {X : Type 0} (fixed : List (Option ℕ)) (xs : List X) (rest : List ℕ)
    → length xs ≡ length fixed → length rest ≡ length (staying fixed xs) → Fits fixed rest
fits_by_length [] xs [] same few = refl
fits_by_length [] xs (y ∷ rest) same few = absurd (omega arith)
fits_by_length (f ∷ fixed) [] rest same few = absurd (omega arith)
fits_by_length (Some n ∷ fixed) (x ∷ xs) rest same few = fits_by_length fixed xs rest (omega arith) few
fits_by_length (None ∷ fixed) (x ∷ xs) [] same few = absurd (omega arith)
fits_by_length (None ∷ fixed) (x ∷ xs) (y ∷ rest) same few =
    fits_by_length fixed xs rest (omega arith) (omega arith)

-- what stands at a place of the whole, by what is fixed there
abbrev pub told : List ℕ → ℕ → Option (Option ℕ) → Option ℕ
told rest r None = None
told rest r (Some None) = slice_get rest r
told rest r (Some (Some n)) = Some n

told-next : (x : ℕ) (rest : List ℕ) (r : ℕ) (f : Option (Option ℕ))
    → told rest r f ≡ told (x ∷ rest) (r + 1) f
told-next x rest r None = refl
told-next x rest r (Some None) =
    let next : suc r ≡ r + 1 = omega arith in
    ap (λ i. slice_get (x ∷ rest) i) next
told-next x rest r (Some (Some n)) = refl

pub at_place : (fixed : List (Option ℕ)) (rest : List ℕ) → Fits fixed rest → (p : ℕ)
    → slice_get (whole fixed rest) p ≡ told rest (rank fixed p) (slice_get fixed p)
at_place [] rest fits p = refl
at_place (Some n ∷ fixed) rest fits zero = refl
at_place (Some n ∷ fixed) rest fits (suc p) = at_place fixed rest fits p
at_place (None ∷ fixed) [] fits p = absurd fits
at_place (None ∷ fixed) (x ∷ rest) fits zero = refl
at_place (None ∷ fixed) (x ∷ rest) fits (suc p) =
    at_place fixed rest fits p ∙ told-next x rest (rank fixed p) (slice_get fixed p)

-- ---- of a repair

pub same_length : (book repaired : Problem) (price : ℕ → ℕ) (p r : ℕ) (published : List ℕ)
    (fixed : List (Option ℕ)) → AreUnitsFrom book repaired price p r published fixed
    → length published ≡ length fixed
same_length book repaired price p r [] [] units = refl
same_length book repaired price p r [] (f ∷ fixed) units = absurd units
same_length book repaired price p r (x ∷ published) [] units = absurd units
same_length book repaired price p r (x ∷ published) (Some n ∷ fixed) units =
    ap suc (same_length book repaired price (p + 1) r published fixed units.1)
same_length book repaired price p r (x ∷ published) (None ∷ fixed) units =
    ap suc (same_length book repaired price (p + 1) (r + 1) published fixed units.1)

pub whole-staying : (book repaired : Problem) (price : ℕ → ℕ) (p r : ℕ) (published : List ℕ)
    (fixed : List (Option ℕ)) → AreUnitsFrom book repaired price p r published fixed
    → whole fixed (staying fixed published) ≡ published
whole-staying book repaired price p r [] [] units = refl
whole-staying book repaired price p r [] (f ∷ fixed) units = absurd units
whole-staying book repaired price p r (x ∷ published) [] units = absurd units
whole-staying book repaired price p r (x ∷ published) (Some n ∷ fixed) units =
    let rest = whole-staying book repaired price (p + 1) r published fixed units.1 in
    ap (λ m. m ∷ whole fixed (staying fixed published)) units.0 ∙ ap (λ l. x ∷ l) rest
whole-staying book repaired price p r (x ∷ published) (None ∷ fixed) units =
    ap (λ l. x ∷ l) (whole-staying book repaired price (p + 1) (r + 1) published fixed units.1)

-- a roster of the repaired book has a number for each pairing that is rostered anew
pub fits : (book : Problem) (published : List ℕ) (fixed : List (Option ℕ)) (price : ℕ → ℕ) (repaired : Problem)
    → IsRepair book published fixed price repaired → length published ≡ length book.pairings
    → (rest : List ℕ) → length rest ≡ length repaired.pairings → Fits fixed rest
fits book published fixed price repaired repair covers rest many =
    let whose = same_length book repaired price 0 0 published fixed repair.units in
    let before = length-map book.pairings unnumbered in
    let after = length-map repaired.pairings unnumbered in
    fits_by_length fixed (map unnumbered book.pairings) rest
    (before ∙ sym covers ∙ whose)
    (many ∙ sym after ∙ ap (λ l. length l) repair.pairings)
