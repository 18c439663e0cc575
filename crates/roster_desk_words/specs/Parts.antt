-- A text of parts.
use Rattle.std.specs.Prelude.{◌≡◌, ◌++◌, ◌∷◌, ℕ, List, []}

-- the text has a part for each of these, in their order, and nothing else
abbrev pub AreParts : {X : Type 0} → (X → List ℕ → Type 0) → List X → List ℕ → Type 0
AreParts IsPart [] text = text ≡ []
AreParts IsPart (x ∷ xs) text =
    (part : List ℕ) × (rest : List ℕ) × IsPart x part × AreParts IsPart xs rest × (text ≡ part ++ rest)
