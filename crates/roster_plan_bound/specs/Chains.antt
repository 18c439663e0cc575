-- Chains of pairings: each may follow the one before. What a chain brings depends on the flight before it,
-- which is counted in steps up to a last state.
use Rattle.std.specs.Prelude.{◌≡◌, ℕ, ◌+◌, ◌-◌, ◌<◌, ◌≤◌, nat_lt, if◌then◌else◌, true, List, [], ◌∷◌, length, slice_index, slice_index_or, ℤ, pos, ◌+ℤ◌, ◌≤ℤ◌}
use Rattle.roster_model.specs.Rules.{is_among}
use Rattle.roster_plan_bound.specs.declared.network.Network.{Network}

-- what the pairing at place p brings, or the end in state p
abbrev pub value_at : List ℤ → ℕ → ℤ
value_at values p = slice_index_or values p (pos 0)

-- the pairings that may follow the one at place p
abbrev pub followers_of : List (List ℕ) → ℕ → List ℕ
followers_of followers p = slice_index_or followers p []

-- so many steps more, but no state past the last
abbrev pub next_state : ℕ → ℕ → ℕ → ℕ
next_state states f step = if nat_lt (f + step) states then f + step else states - 1

-- the first pairing is one of those, and each other may follow the one before
unfoldable pub IsChain : List (List ℕ) → List ℕ → List ℕ → Type 0
IsChain followers first [] = Unit {0}
IsChain followers first (p ∷ rest) =
    (is_among first p ≡ true) × IsChain followers (followers_of followers p) rest

-- what the chain brings that begins in state f
unfoldable pub chain_value : Network → List ℤ → ℕ → List ℕ → ℤ
chain_value network values f [] = value_at network.terms.items f
chain_value network values f (p ∷ rest) =
    value_at values p
    +ℤ chain_value network values (next_state (length network.terms.items) f (slice_index network.steps.items p)) rest

-- the row has for each state no more than any chain brings from there whose first pairing is one of those
pub record IsRow (network : Network) (values : List ℤ) (first : List ℕ) (row : List ℤ) : Type 0 where
  pub covers : length row ≡ length network.terms.items
  pub below : (f : ℕ) → f < length network.terms.items → (rest : List ℕ)
      → IsChain network.followers.items first rest
      → value_at row f ≤ℤ chain_value network values f rest

-- no pairing of the chain is before that place, if its pairings ascend
abbrev pub IsBehind : ℕ → List ℕ → Type 0
IsBehind from chain = (p : ℕ) (rest : List ℕ) → chain ≡ p ∷ rest → from ≤ p

-- the tail from a place on: for each state no more than any chain brings from there whose first pairing is at
-- that place or behind it
pub record IsTail (network : Network) (values : List ℤ) (from : ℕ) (tail : List ℤ) : Type 0 where
  pub covers : length tail ≡ length network.terms.items
  pub below : (f : ℕ) → f < length network.terms.items → (rest : List ℕ)
      → IsChain network.followers.items network.first rest
      → IsBehind from rest → value_at tail f ≤ℤ chain_value network values f rest
