-- Which choices of a tree are live, told apart from the choices. No marks at all leave them as they are.
use Rattle.std.specs.Prelude.{◌≡◌, ℕ, Bool, true, if◌then◌else◌, List, [], ◌∷◌, Some, length, slice_get}
use Rattle.roster_search_regions.specs.declared.choice.Choice.{Choice}
use Rattle.roster_search_regions.specs.declared.marker.Marker.{Marker}
use Rattle.roster_search_regions.specs.Regions.{AllowedLine}
use Rattle.roster_search_regions.specs.Trees.{lines_in, ArePossible, AreCertain}

-- the choice, live or not
abbrev pub with_live : Bool → Choice → Choice
with_live live choice = record { extra = choice.extra; depth = choice.depth; last = choice.last; live = live }

-- the choices, of which those are live that are marked
unfoldable pub remarked : List Bool → List Choice → List Choice
remarked [] choices = choices
remarked (mark ∷ marks) [] = []
remarked (mark ∷ marks) (choice ∷ choices) = with_live mark choice ∷ remarked marks choices

-- the lines that are marked
unfoldable pub picked : List Bool → List AllowedLine → List AllowedLine
picked [] lines = lines
picked (mark ∷ marks) [] = []
picked (mark ∷ marks) (line ∷ lines) = if mark then line ∷ picked marks lines else picked marks lines

-- all lines of a person, and the marks of those that are left
pub record MarkedLines : Type 0 where
  pub all : List AllowedLine
  pub marks : List Bool

abbrev pub AreAllLive : List Choice → Type 0
AreAllLive choices = (i : ℕ) (choice : Choice) → slice_get choices i ≡ Some choice → choice.live ≡ true

-- the choices are marked: those that have the lines are live
pub record IsMarking (marker : Marker) (choices : List Choice) (lines : List AllowedLine) : Type 0 where
  pub covers : length marker.marks.items ≡ length choices
  pub written : lines_in (remarked marker.marks.items choices) ≡ lines
  pub some : ArePossible lines marker.possible
  pub all : AreCertain lines marker.certain
  pub number : marker.count ≡ length lines
