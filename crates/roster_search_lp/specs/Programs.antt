-- A linear program over lines of persons, as contracts see it.
use Rattle.std.specs.Prelude.{ℕ, Bool, List, [], ◌∷◌, ◌++◌, ℤ, pos, neg_ℤ, ◌≤ℤ◌, All, cond, slice_index_or, slice_set}
use Rattle.std.specs.List.{list_any}
use Rattle.std.specs.Str.{bytes_eq}
use Rattle.roster_search_lp.specs.declared.limits.TheConstants.{MOST_DUAL}

-- for each person the sets of pairings of their columns, and a dual price of each pairing
pub record Program : Type 0 where
  pub lines : List (List (List ℕ))
  pub prices : List ℤ

-- whether one of the sets is this one
abbrev pub has_set : List ℕ → List (List ℕ) → Bool
has_set set sets = list_any (λ other. bytes_eq other set) sets

-- the sets with this one, behind the others if it isn't there
abbrev pub with_set : List ℕ → List (List ℕ) → List (List ℕ)
with_set set sets = cond (has_set set sets) sets (sets ++ set ∷ [])

-- the sets of person k
abbrev pub sets_of : List (List (List ℕ)) → ℕ → List (List ℕ)
sets_of lines k = slice_index_or lines k []

-- the lines with this one of person k
abbrev pub with_line : ℕ → List ℕ → List (List (List ℕ)) → List (List (List ℕ))
with_line k set lines = slice_set lines k (with_set set (sets_of lines k))

-- a dual price within its limit
abbrev pub IsDual : ℤ → Type 0
IsDual dual = (neg_ℤ (pos MOST_DUAL) ≤ℤ dual) × (dual ≤ℤ pos MOST_DUAL)

-- no dual price is beyond its limit
abbrev pub AreDuals : List ℤ → Type 0
AreDuals duals = All IsDual duals
