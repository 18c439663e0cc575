-- Lines that are chosen for the first persons, and the rosters that have them.
use Rattle.std.specs.Prelude.{◌≡◌, ℕ, ◌+◌, ◌*◌, ◌/◌, ◌<◌, ◌≤◌, Bool, true, nat_lt, ◌++◌, ◌==◌, if◌then◌else◌, List, [], ◌∷◌, Some, length, map, option_map, unwrap_or, slice_get, slice_index_or, ℤ, pos, ◌+ℤ◌, ◌≤ℤ◌, ◌<ℤ◌}
use Rattle.std.specs.Int.{int_min}
use Rattle.std.specs.List.{range_with_len}
use Rattle.roster_model.specs.Problem.{Problem}
use Rattle.roster_model.specs.Lines.{IsLine}
use Rattle.roster_model.specs.Places.{set_of}
use Rattle.roster_model.specs.Rosters.{IsLegalRoster}
use Rattle.roster_model.specs.Rules.{is_among}
use Rattle.roster_model.specs.Costs.{total}
use Rattle.roster_cost.specs.Priced.{reduced_cost}
use Rattle.roster_bounds.specs.Amounts.{AreReduced}
use Rattle.roster_lines_table.specs.Entries.{Entry, set_at, sets_of}
use Rattle.roster_lines_table.specs.Person.{lines_at, IsTableOf}

-- a problem, the lines of its persons, and a price for each pairing
pub record PricedTable : Type 0 where
  pub problem : Problem
  pub table : List (List Entry)
  pub prices : List ℤ

abbrev pub priced_table : Problem → List (List Entry) → List ℤ → PricedTable
priced_table problem table prices = record { problem = problem; table = table; prices = prices }

-- the price of the pairing at place p
abbrev pub price_at : List ℤ → ℕ → ℤ
price_at prices p = slice_index_or prices p (pos 0)

-- so many halves of each penalty, rounded down
abbrev pub halves_of : Problem → ℕ → List ℤ
halves_of problem halves = map (λ pairing. pos (pairing.penalty * halves / 2)) problem.pairings

-- the pairings of line i of person k
abbrev pub line_set : List (List Entry) → ℕ → ℕ → List ℕ
line_set table k i = set_at (lines_at table k) i

-- the table is that of the problem, and there is a price for each pairing
pub record ArePriced (problem : Problem) (table : List (List Entry)) (prices : List ℤ) : Type 0 where
  pub lines : IsTableOf problem table
  pub covers : length prices ≡ length problem.pairings

-- no line of person k has a lower reduced cost
abbrev pub IsReducedBound : Problem → List ℤ → ℕ → ℤ → Type 0
IsReducedBound problem prices k bound =
    (set : List ℕ) → IsLine problem k set → bound ≤ℤ reduced_cost problem (price_at prices) k set

-- the number is the least reduced cost of a line of person k
pub record IsLeastReduced (problem : Problem) (prices : List ℤ) (k : ℕ) (least : ℤ) : Type 0 where
  pub below : IsReducedBound problem prices k least
  pub set : List ℕ
  pub line : IsLine problem k set
  pub has : least ≡ reduced_cost problem (price_at prices) k set

-- the first sums are what the pairings of so many lines of person k have for prices, in all
pub record AreSums (table : List (List Entry)) (prices : List ℤ) (k count : ℕ) (sums : List ℤ) : Type 0 where
  pub covers : length sums ≡ count
  pub each : (i : ℕ) → i < count
      → slice_index_or sums i (pos 0) ≡ total (price_at prices) (line_set table k i)

-- for each of so many persons a bound on the reduced costs of their lines
pub record AreReducedBounds (problem : Problem) (prices : List ℤ) (count : ℕ) (bounds : List ℤ) : Type 0 where
  pub covers : length bounds ≡ count
  pub each : (k : ℕ) → k < count → IsReducedBound problem prices k (slice_index_or bounds k (pos 0))
  pub fits : (k : ℕ) → k < count → AreReduced 1 (slice_index_or bounds k (pos 0))

-- the bounds of all persons
pub record IsBuilt (problem : Problem) (table : List (List Entry)) (prices bounds : List ℤ) : Type 0 where
  pub priced : ArePriced problem table prices
  pub below : AreReducedBounds problem prices (length problem.persons) bounds

-- for each of the first persons the number of a line
pub record ChosenLines : Type 0 where
  pub tables : PricedTable
  pub lines : List ℕ

-- the person whose line has pairing p, and the next person if no line has it; the first line is that
-- of person k
abbrev pub placing_person : List (List Entry) → ℕ → List ℕ → ℕ → ℕ
placing_person table k [] p = k
placing_person table k (i ∷ lines) p =
    if is_among (line_set table k i) p then k else placing_person table (k + 1) lines p

-- whether one of the lines has pairing p
abbrev pub is_placed : List (List Entry) → List ℕ → ℕ → Bool
is_placed table lines p = nat_lt (placing_person table 0 lines p) (length lines)

-- a pairing is in the set and in one of the lines
abbrev pub Meets : List (List Entry) → List ℕ → List ℕ → Type 0
Meets table lines set = (p : ℕ) × (is_placed table lines p ≡ true) × (is_among set p ≡ true)

-- the roster gives the first persons the lines
abbrev pub HasLines : List (List Entry) → List ℕ → List ℕ → Type 0
HasLines table lines places =
    (k i : ℕ) → slice_get lines k ≡ Some i
    → slice_get (sets_of (lines_at table k)) i ≡ Some (set_of k places)

-- No more lines than persons, each of them in its person's table, and no two of them share a pairing.
pub record AreApart (tables : PricedTable) (lines : List ℕ) : Type 0 where
  pub persons : length lines ≤ length tables.problem.persons
  pub numbers : (k i : ℕ) → slice_get lines k ≡ Some i → i < length (lines_at tables.table k)
  pub apart : (j k h i p : ℕ) → j < k → slice_get lines j ≡ Some h → slice_get lines k ≡ Some i
      → is_among (line_set tables.table j h) p ≡ true → ¬ (is_among (line_set tables.table k i) p ≡ true)

-- the reduced costs of the lines; the first is that of person k
abbrev pub reduced_costs : PricedTable → ℕ → List ℕ → ℤ
reduced_costs tables k [] = pos 0
reduced_costs tables k (i ∷ lines) =
    reduced_cost tables.problem (price_at tables.prices) k (line_set tables.table k i)
    +ℤ reduced_costs tables (k + 1) lines

-- what is kept of the lines: which pairings they have, and their reduced costs
pub record IsNode (tables : PricedTable) (lines placed : List ℕ) (reduced : ℤ) : Type 0 where
  pub apart : AreApart tables lines
  pub has : (p : ℕ) → is_among placed p ≡ is_placed tables.table lines p
  pub sum : reduced ≡ reduced_costs tables 0 lines
  pub fits : AreReduced (length lines) reduced

-- the lines with one more behind
abbrev pub one_line_more : ChosenLines → ℕ → ChosenLines
one_line_more node i = record node { lines = node.lines ++ i ∷ [] }

-- a legal roster that gives the first persons the lines
pub record IsOfNode (node : ChosenLines) (places : List ℕ) : Type 0 where
  pub legal : IsLegalRoster node.tables.problem places
  pub has : HasLines node.tables.table node.lines places

-- what a line of person k costs beyond the prices of its pairings
abbrev pub reduced_at : PricedTable → ℕ → List ℕ → ℤ
reduced_at tables k set = reduced_cost tables.problem (price_at tables.prices) k set

-- the penalty of the pairing at place p
abbrev pub penalty_at : Problem → ℕ → ℕ
penalty_at problem p = unwrap_or (option_map (λ pairing. pairing.penalty) (slice_get problem.pairings p)) 0

-- that penalty if the pairing is open, else its price
abbrev pub penalty_or_price : PricedTable → ℕ → ℕ → ℤ
penalty_or_price tables p x =
    if x == length tables.problem.persons then pos (penalty_at tables.problem p) else price_at tables.prices p

-- ---- which of some prices are the best

-- the smaller of the price and the penalty of the pairing at place p
abbrev pub lesser_at : Problem → List ℤ → ℕ → ℤ
lesser_at problem prices p = int_min (pos (penalty_at problem p)) (price_at prices p)

-- the number is the bound of all legal rosters at the prices: the least reduced cost of a line of each person,
-- and for each pairing the smaller of its price and its penalty
pub record IsRootBound (problem : Problem) (prices : List ℤ) (bound : ℤ) : Type 0 where
  pub least : ℕ → ℤ
  pub each : (k : ℕ) → k < length problem.persons → IsLeastReduced problem prices k (least k)
  pub sum : bound
      ≡ total least (range_with_len 0 (length problem.persons))
      +ℤ total (lesser_at problem prices) (range_with_len 0 (length problem.pairings))

-- The table is priced by so many halves of each penalty, fewer than a number: the first of these whose bound is the
-- greatest, and this is it.
pub record AreBestHalves (problem : Problem) (table : List (List Entry)) (count : ℕ) (tables : PricedTable)
    (bound : ℤ) : Type 0 where
  pub halves : ℕ
  pub few : halves < count
  pub priced : tables ≡ priced_table problem table (halves_of problem halves)
  pub own : IsRootBound problem (halves_of problem halves) bound
  pub others : (other : ℕ) → other < count
      → (z : ℤ) × IsRootBound problem (halves_of problem other) z × (z ≤ℤ bound) × (other < halves → z <ℤ bound)
