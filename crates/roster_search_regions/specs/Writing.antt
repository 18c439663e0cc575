-- How far a tree of choices is written.
use Rattle.std.specs.Prelude.{◌≡◌, ℕ, ◌≤◌, List, [], length, take}
use Rattle.roster_search_regions.specs.declared.writer.Writer.{Writer}
use Rattle.roster_search_regions.specs.Regions.{AllowedLine}
use Rattle.roster_search_regions.specs.Trees.{path_after, lines_in, IsTree}

-- The lines are written. The path, on which the reader is, has its first pairings in common with the last
-- line that was written.
pub record IsWriting (writer : Writer) (path : List ℕ) (lines : List AllowedLine) : Type 0 where
  pub tree : IsTree writer.choices.items writer.possible writer.certain writer.count
  pub written : lines_in writer.choices.items ≡ lines
  pub within : writer.shared ≤ length path
  pub same : take writer.shared (path_after [] writer.choices.items) ≡ take writer.shared path
