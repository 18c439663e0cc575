-- Some lines of a person as a tree: each choice is a set with one pairing more than an earlier one, and
-- those that go on from a choice stand right behind it.
use Rattle.std.specs.Prelude.{◌≡◌, ℕ, ◌<◌, ◌≤◌, ◌-◌, ◌==◌, if◌then◌else◌, Bool, true, false, not, List, [], ◌∷◌, ◌++◌, length, take, All, Contains}
use Rattle.std.specs.List.{list_any, list_all}
use Rattle.roster_model.specs.declared.limits.TheConstants.{MOST_PAIRINGS}
use Rattle.roster_model.specs.Rules.{is_among}
use Rattle.roster_cost.specs.Amounts.{IsWithin}
use Rattle.roster_search_regions.specs.declared.choice.TheConstants.{MOST_EXTRA}
use Rattle.roster_search_regions.specs.declared.choice.Choice.{Choice}
use Rattle.roster_search_regions.specs.Regions.{AllowedLine, allowed}

-- The set of the next choice: its last pairing stands behind those of the set before that come earlier
-- on its way. One without depth is the empty set.
abbrev pub next_path : List ℕ → Choice → List ℕ
next_path path choice =
    if choice.depth == 0 then [] else take (choice.depth - 1) path ++ choice.last ∷ []

-- the set of the last of some choices
unfoldable pub path_after : List ℕ → List Choice → List ℕ
path_after path [] = path
path_after path (choice ∷ choices) = path_after (next_path path choice) choices

-- a choice's line, if it is a live one
abbrev pub line_here : List ℕ → Choice → List AllowedLine
line_here path choice = if choice.live then allowed path choice.extra ∷ [] else []

-- the lines of the live choices
unfoldable pub lines_after : List ℕ → List Choice → List AllowedLine
lines_after path [] = []
lines_after path (choice ∷ choices) =
    line_here (next_path path choice) choice ++ lines_after (next_path path choice) choices

unfoldable pub lines_in : List Choice → List AllowedLine
lines_in choices = lines_after [] choices

-- the numbers of a choice are within their limits
pub record IsLimited (choice : Choice) : Type 0 where
  pub depth : choice.depth ≤ MOST_PAIRINGS
  pub last : choice.last < MOST_PAIRINGS
  pub extra : IsWithin MOST_EXTRA choice.extra

-- the pairing is the choice's last one
abbrev pub has_last : Choice → ℕ → Bool
has_last choice p = if choice.depth == 0 then false else choice.last == p

-- the pairings that some of the lines have
abbrev pub ArePossible : List AllowedLine → List ℕ → Type 0
ArePossible lines set = (p : ℕ) → is_among set p ≡ list_any (λ line. is_among line.set p) lines

-- the pairings that all of the lines have, if there are any
abbrev pub AreCertain : List AllowedLine → List ℕ → Type 0
AreCertain lines set =
    0 < length lines → (p : ℕ) → is_among set p ≡ list_all (λ line. is_among line.set p) lines

-- choices, with what some and what all of their lines have, and how many there are
pub record IsTree (choices : List Choice) (possible certain : List ℕ) (count : ℕ) : Type 0 where
  pub limited : All IsLimited choices
  pub some : ArePossible (lines_in choices) possible
  pub all : AreCertain (lines_in choices) certain
  pub number : count ≡ length (lines_in choices)

-- what a test answers is what is wanted
abbrev pub agrees : Bool → Bool → Bool
agrees true answer = answer
agrees false answer = not answer

-- the set has none of those pairings
abbrev pub lacks : List ℕ → List ℕ → Bool
lacks taken set = list_all (λ p. not (is_among taken p)) set

-- the line has just the pairings of the set
abbrev pub HasJust : List ℕ → AllowedLine → Type 0
HasJust set line = (p : ℕ) → is_among line.set p ≡ is_among set p

-- one of the lines has
abbrev pub Offers : List AllowedLine → List ℕ → Type 0
Offers lines set = (line : AllowedLine) × Contains lines line × HasJust set line
