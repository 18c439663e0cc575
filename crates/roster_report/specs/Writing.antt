-- What a writer has taken of a text: all of it, or if it failed its first bytes.
use Rattle.std.specs.Prelude.{◌≡◌, ℕ, List, ◌∷◌, [], ◌++◌, take, Option, None, Some, true, false}
use Rattle.std.specs.Io.KnownBytes.{Appends}
use Rattle.roster_watched.specs.Watch.{inner_of, has_failed}
use Rattle.roster_watched.specs.declared.watched.Watched.{Watched}

-- known bytes grow by the front of a text, as far as some place
abbrev pub AppendsPrefix : Option (List ℕ) → Option (List ℕ) → List ℕ → Type 0
AppendsPrefix old new text = (k : ℕ) × Appends old new (take k text)

-- It holds what it held, followed by a text that fits.
abbrev pub Writes : (List ℕ → Type 0) → Option (List ℕ) → Option (List ℕ) → Type 0
Writes IsText old new = (text : List ℕ) × IsText text × Appends old new text

-- The same, if only the first bytes of the text went out.
abbrev pub WritesPart : (List ℕ → Type 0) → Option (List ℕ) → Option (List ℕ) → Type 0
WritesPart IsText old new = (text : List ℕ) × IsText text × AppendsPrefix old new text

-- The writer holds what it held and then the text, or, if it failed on the way, the first bytes of that. One that had
-- failed is as it was.
pub record TellsText {D : Type 0} (contents : D → Option (List ℕ)) (text : List ℕ) (old new : Watched D) : Type 0 where
  pub whole : has_failed new ≡ false
      → (has_failed old ≡ false) × Appends (contents (inner_of old)) (contents (inner_of new)) text
  pub part : has_failed old ≡ false → AppendsPrefix (contents (inner_of old)) (contents (inner_of new)) text
  pub none : has_failed old ≡ true → new ≡ old

-- it was told the text as a line, if there is one, and else nothing
abbrev pub TellsLine : {D : Type 0} → (D → Option (List ℕ)) → Option (List ℕ) → Watched D → Watched D → Type 0
TellsLine contents None old new = new ≡ old
TellsLine contents (Some text) old new = TellsText contents (text ++ (10 ∷ [])) old new
