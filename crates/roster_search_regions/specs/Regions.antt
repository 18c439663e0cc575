-- Regions of rosters: for each person some of their lines, and for each pairing whether it may be open.
use Rattle.std.specs.Prelude.{◌≡◌, ◌≢◌, ◌==◌, ℕ, ◌+◌, ◌-◌, ◌<◌, ◌≤◌, true, false, not, ◌||◌, List, [], Some, ℤ, pos, ◌-ℤ◌, ◌*ℤ◌, All, Contains, length, map, slice_get, slice_index_or, slice_set, sum_by}
use Rattle.std.specs.List.{count_by, list_any, list_all, range_with_len}
use Rattle.roster_model.specs.declared.limits.TheConstants.{MOST_PAIRINGS}
use Rattle.roster_model.specs.Problem.{Problem}
use Rattle.roster_model.specs.Costs.{cost_of, line_cost, total}
use Rattle.roster_model.specs.Lines.{IsLine}
use Rattle.roster_model.specs.Places.{open_number, set_of}
use Rattle.roster_model.specs.Rosters.{IsLegalRoster}
use Rattle.roster_model.specs.Rules.{is_among}
use Rattle.roster_lines_table.specs.Entries.{Entry, sets_of as sets_in}
use Rattle.roster_lines_table.specs.Person.{lines_at}
use Rattle.roster_search_regions.specs.Units.{IsMultiple}

-- a line that a person may still have, and what it costs more than the empty one, in parts of a cost unit
pub record AllowedLine : Type 0 where
  pub set : List ℕ
  pub extra : ℤ

abbrev pub allowed : List ℕ → ℤ → AllowedLine
allowed set extra = record { set = set; extra = extra }

-- For each person, in book order, the lines that are allowed; the pairings that must be open, and those
-- that must not be; how many are open at least, and at most; how many parts a cost unit has; what it costs
-- that nobody has a pairing, penalties aside; and a number of cost units that divides what rosters cost more
-- than that, or less.
pub record Region : Type 0 where
  pub choices : List (List AllowedLine)
  pub left_open : List ℕ
  pub flown : List ℕ
  pub least_open : ℕ
  pub most_open : ℕ
  pub scale : ℕ
  pub idle : ℤ
  pub unit : ℕ

-- the lines of person k
abbrev pub lines_of : Region → ℕ → List AllowedLine
lines_of region k = slice_index_or region.choices k []

-- the region in which person k has those lines
abbrev pub with_lines : Region → ℕ → List AllowedLine → Region
with_lines region k lines = record region { choices = slice_set region.choices k lines }

-- the sets of some lines
abbrev pub sets_of : List AllowedLine → List (List ℕ)
sets_of lines = map (λ line. line.set) lines

-- what the empty lines of all persons cost
unfoldable pub idle_cost : Problem → ℤ
idle_cost problem = total (λ k. line_cost problem k []) (range_with_len 0 (length problem.persons))

-- what a set of person k costs more than the empty one
abbrev pub extra_of : Problem → ℕ → List ℕ → ℤ
extra_of problem k set = line_cost problem k set -ℤ line_cost problem k []

-- it is a line of person k, with what it costs more than the empty one
pub record IsAllowedLine (problem : Problem) (scale k : ℕ) (line : AllowedLine) : Type 0 where
  pub is_line : IsLine problem k line.set
  pub extra : line.extra ≡ pos scale *ℤ extra_of problem k line.set

-- how many pairings are open in the places
abbrev pub open_in : Problem → List ℕ → ℕ
open_in problem places = count_by (λ place. place == open_number problem) places

-- The places are in the region: a legal roster in which each person has one of the sets, in which those
-- pairings are open that must be, and none that must not, and no fewer or more than may be.
pub record IsIn (problem : Problem) (region : Region) (places : List ℕ) : Type 0 where
  pub legal : IsLegalRoster problem places
  pub chosen : (k : ℕ) (lines : List AllowedLine) → slice_get region.choices k ≡ Some lines
      → Contains (sets_of lines) (set_of k places)
  pub left_open : (p : ℕ) → is_among region.left_open p ≡ true
      → slice_get places p ≡ Some (open_number problem)
  pub flown : (p : ℕ) → is_among region.flown p ≡ true → slice_get places p ≢ Some (open_number problem)
  pub least_open : region.least_open ≤ open_in problem places
  pub most_open : open_in problem places ≤ region.most_open

-- the region has lines of each person, and what each of its rosters costs is so many units from `idle`
pub record IsRegion (problem : Problem) (region : Region) : Type 0 where
  pub covers : length region.choices ≡ length problem.persons
  pub each : (k : ℕ) (lines : List AllowedLine) → slice_get region.choices k ≡ Some lines
      → All (IsAllowedLine problem region.scale k) lines
  pub idle : region.idle ≡ idle_cost problem
  pub units : (places : List ℕ) → IsIn problem region places
      → IsMultiple region.unit (cost_of problem places -ℤ region.idle)

-- it isn't said whether the pairing at place p is open
pub record IsUndecidedAt (region : Region) (p : ℕ) : Type 0 where
  pub left_open : is_among region.left_open p ≡ false
  pub flown : is_among region.flown p ≡ false

-- of how many pairings that isn't said
unfoldable pub undecided_in : List ℕ → List ℕ → ℕ
undecided_in left_open flown =
    count_by (λ p. not (is_among left_open p || is_among flown p)) (range_with_len 0 MOST_PAIRINGS)

-- how much is left to decide: the lines that are left, of all persons, those pairings, and between how many
-- open ones
abbrev pub size_of : Region → ℕ
size_of region =
    sum_by length region.choices + undecided_in region.left_open region.flown
    + (region.most_open - region.least_open)

-- The new region is part of the old one, and has all of it that meets the condition.
pub record IsNarrowed (problem : Problem) (Kept : List ℕ → Type 0) (old new : Region) : Type 0 where
  pub region : IsRegion problem new
  pub inside : (places : List ℕ) → IsIn problem new places → IsIn problem old places
  pub kept : (places : List ℕ) → IsIn problem old places → Kept places → IsIn problem new places
  pub size : size_of new ≤ size_of old
  pub scale : new.scale ≡ old.scale

-- every roster in the region is one of those
abbrev pub IsWhollyIn : Problem → Region → (List ℕ → Type 0) → Type 0
IsWhollyIn problem region Here = (places : List ℕ) → IsIn problem region places → Here places

-- person k has the pairing at place p
abbrev pub Has : ℕ → ℕ → List ℕ → Type 0
Has k p places = slice_get places p ≡ Some k

-- person k hasn't
abbrev pub HasNot : ℕ → ℕ → List ℕ → Type 0
HasNot k p places = slice_get places p ≢ Some k

-- person k has none of those pairings
abbrev pub HasNone : ℕ → List ℕ → List ℕ → Type 0
HasNone k taken places = (p : ℕ) → is_among taken p ≡ true → HasNot k p places

-- at most so many pairings are open
abbrev pub HasOpenAtMost : Problem → ℕ → List ℕ → Type 0
HasOpenAtMost problem count places = open_in problem places ≤ count

-- at least so many are
abbrev pub HasOpenAtLeast : Problem → ℕ → List ℕ → Type 0
HasOpenAtLeast problem count places = count ≤ open_in problem places

-- some of the person's lines have the pairing, and some haven't
pub record IsSplit (region : Region) (k p : ℕ) : Type 0 where
  pub some : list_any (λ line. is_among line.set p) (lines_of region k) ≡ true
  pub others : list_all (λ line. is_among line.set p) (lines_of region k) ≡ false

-- nobody has two lines that aren't the same
abbrev pub IsDecided : Region → Type 0
IsDecided region =
    (k : ℕ) (lines : List AllowedLine) → slice_get region.choices k ≡ Some lines
    → (set : List ℕ) × All (λ line. (p : ℕ) → is_among line.set p ≡ is_among set p) lines

-- In the places each person has a line of the table whose number is in the person's range: from its first
-- number up to the second, which isn't in it.
abbrev pub IsInRanges : List (List Entry) → List (ℕ × ℕ) → List ℕ → Type 0
IsInRanges table ranges places =
    (k : ℕ) (range : ℕ × ℕ) → slice_get ranges k ≡ Some range
    → (i : ℕ) × (range.0 ≤ i) × (i < range.1) × (slice_get (sets_in (lines_at table k)) i ≡ Some (set_of k places))
