-- Lines of a person that are wanted, and why they aren't listed.
use Rattle.std.specs.Prelude.{◌≡◌, ℕ, ◌<◌, List, [], Some, length, slice_get}
use Rattle.roster_model.specs.Lines.{AreSomeLines, IsCrowded, IsLine}
use Rattle.roster_model.specs.Problem.{Problem}
use Rattle.roster_lines.specs.declared.extend.LinesFault.{LinesFault}
use Rattle.roster_lines.specs.declared.extend.LinesFault.TheVariants.{TooMany, Memory}

-- the sets are lines of person k in their order, the empty one first, and each that is wanted is among them
pub record AreWantedLines (problem : Problem) (k : ℕ) (wants : List ℕ → Type 0)
    (sets : List (List ℕ)) : Type 0 where
  pub some : AreSomeLines problem k sets
  pub first : slice_get sets 0 ≡ Some []
  pub every : (set : List ℕ) → IsLine problem k set → wants set → (i : ℕ) × (slice_get sets i ≡ Some set)

-- person k has more lines than so many
pub record HasMoreLines (problem : Problem) (k most : ℕ) : Type 0 where
  pub sets : List (List ℕ)
  pub some : AreSomeLines problem k sets
  pub many : most < length sets

-- why the lines of person k aren't listed
abbrev pub IsFaultOf : Problem → ℕ → LinesFault → Type 0
IsFaultOf problem k TooMany = IsCrowded problem k
IsFaultOf problem k Memory = Unit {0}

-- and why no more than so many of them are
abbrev pub IsFaultWithin : Problem → ℕ → ℕ → LinesFault → Type 0
IsFaultWithin problem k most TooMany = HasMoreLines problem k most
IsFaultWithin problem k most Memory = Unit {0}
