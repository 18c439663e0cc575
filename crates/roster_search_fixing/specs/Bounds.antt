-- Bounds on what the rosters of a region cost, from dual prices. Costs are in parts of a cost unit, above
-- what it costs that nobody has a pairing.
use Rattle.std.specs.Prelude.{◌≡◌, ℕ, ◌<◌, ◌==◌, if◌then◌else◌, List, length, slice_index, slice_index_or, ℤ, pos, ◌+ℤ◌, ◌-ℤ◌, ◌*ℤ◌, ◌≤ℤ◌, ◌<ℤ◌, All}
use Rattle.roster_model.specs.Costs.{cost_of, total}
use Rattle.roster_model.specs.Places.{open_number, set_of}
use Rattle.roster_model.specs.Problem.{Problem}
use Rattle.roster_search_regions.specs.Prices.{price_at, value_of}
use Rattle.roster_search_regions.specs.Regions.{extra_of, lines_of, IsIn, Region}
use Rattle.roster_search_regions.specs.Terms.{open_cost, term_of}

-- what a roster costs above that, in parts
abbrev pub fine_cost : Problem → Region → List ℕ → ℤ
fine_cost problem region places = pos region.scale *ℤ (cost_of problem places -ℤ region.idle)

-- what it adds in a roster
abbrev pub share_of : Problem → Region → List ℤ → ℤ → List ℕ → ℕ → ℤ
share_of problem region prices paid places p =
    if slice_index places p == open_number problem then open_cost problem region paid p else price_at prices p

-- what person k's line adds in a roster: what it costs more than the empty one, less its prices
abbrev pub value_in : Problem → Region → List ℤ → List ℕ → ℕ → ℤ
value_in problem region prices places k =
    pos region.scale *ℤ extra_of problem k (set_of k places) -ℤ total (price_at prices) (set_of k places)

-- each number is at most the value of each line of its person
pub record AreLeastValues (problem : Problem) (region : Region) (prices values : List ℤ) : Type 0 where
  pub covers : length values ≡ length problem.persons
  pub least : (k : ℕ) → k < length problem.persons
      → All (λ line. slice_index_or values k (pos 0) ≤ℤ value_of prices line) (lines_of region k)

-- each number is what its pairing adds at least
pub record AreTerms (problem : Problem) (region : Region) (prices : List ℤ) (paid : ℤ) (terms : List ℤ) : Type 0 where
  pub covers : length terms ≡ length problem.pairings
  pub term : (p : ℕ) → p < length problem.pairings
      → slice_index_or terms p (pos 0) ≡ term_of problem region prices paid p

-- the sum of both
abbrev pub bound_of : List ℤ → List ℤ → ℤ
bound_of values terms = total (λ value. value) values +ℤ total (λ term. term) terms

-- the roster costs at most so much
abbrev pub CostsAtMost : Problem → ℤ → List ℕ → Type 0
CostsAtMost problem most places = cost_of problem places ≤ℤ most

-- every roster in the region costs more
abbrev pub IsAllAbove : Problem → Region → ℤ → Type 0
IsAllAbove problem region most =
    (places : List ℕ) → IsIn problem region places → most <ℤ cost_of problem places

-- if a roster of the region costs at most so much, person k's line adds no more than the cut
abbrev pub IsValueWithin : Problem → Region → List ℤ → ℕ → ℤ → ℤ → Type 0
IsValueWithin problem region prices k most cut =
    (places : List ℕ) → IsIn problem region places → CostsAtMost problem most places → value_in problem region prices places k ≤ℤ cut

-- and the pairing at place p
abbrev pub IsShareWithin : Problem → Region → List ℤ → ℤ → ℕ → ℤ → ℤ → Type 0
IsShareWithin problem region prices paid p most cut =
    (places : List ℕ) → IsIn problem region places → CostsAtMost problem most places → share_of problem region prices paid places p ≤ℤ cut

-- If a roster of the region costs at most so much, what each line and each pairing adds is no further
-- than the slack above what it adds at least.
pub record IsSlack (problem : Problem) (region : Region) (prices : List ℤ) (paid : ℤ) (values terms : List ℤ)
    (most slack : ℤ) : Type 0 where
  pub lines : (k : ℕ) → k < length problem.persons
      → IsValueWithin problem region prices k most (slice_index_or values k (pos 0) +ℤ slack)
  pub pairings : (p : ℕ) → p < length problem.pairings
      → IsShareWithin problem region prices paid p most (slice_index_or terms p (pos 0) +ℤ slack)
