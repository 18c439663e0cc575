-- What may stand behind a pairing brings at least so much.
use Rattle.std.specs.Prelude.{◌≡◌, ℕ, zero, suc, ◌+◌, ◌<◌, ◌≤◌, true, false, List, ◌∷◌, ◌++◌, length, slice_get, slice_index_or, Some, ℤ, pos, neg_ℤ, ◌+ℤ◌, ◌≤ℤ◌, All}
use Rattle.roster_model.specs.Costs.{total}
use Rattle.roster_model.specs.Problem.{Problem}
use Rattle.roster_cost.specs.Amounts.{IsWithin}
use Rattle.roster_plan_bound.specs.declared.behind.Behind.{Behind}
use Rattle.roster_plan_bound.specs.declared.rows_behind.OwedRows.{OwedRows}
use Rattle.roster_plan_bound.specs.declared.parts.TheConstants.{MOST_BEHIND}
use Rattle.roster_plan_bound.specs.declared.timeline.Timeline.{Timeline}
use Rattle.roster_plan_bound.specs.Chains.{value_at}
use Rattle.roster_plan_bound.specs.Spans.{IsBegun}
use Rattle.roster_model.specs.Rules.{is_among}
use Rattle.roster_plan_bound.specs.Timelines.{begin_of, class_of, later_than, low_of, need_behind, need_first, rank_of, unrested_after, IsOwed, IsPath, MayEnd}

-- less than any pairings bring
abbrev pub lowest : ℤ
lowest = neg_ℤ (pos MOST_BEHIND)

-- what a row has for a class
abbrev pub row_at : List ℤ → ℕ → ℤ
row_at row class = slice_index_or row class lowest

-- the row if so many pairs of days off still have to come
abbrev pub row_for : OwedRows → ℕ → List ℤ
row_for rows zero = rows.none
row_for rows (suc zero) = rows.one
row_for rows (suc (suc need)) = rows.two

-- What stands behind pairing p in a legal set brings no less, if since the instant of the class no recurrent
-- rest lies before its end, and so many pairs of days off still have to come.
abbrev pub IsBehindAt : Problem → ℕ → Timeline → List ℤ → ℕ → ℕ → ℕ → ℤ → Type 0
IsBehindAt problem k timeline values p need class amount =
    (before rest : List ℕ) → IsPath problem k timeline (before ++ p ∷ rest)
    → IsBegun problem k (before ++ p ∷ rest) p (begin_of timeline class)
    → IsOwed problem k timeline (before ++ p ∷ rest) p need
    → amount ≤ℤ total (value_at values) rest

-- So it is for each class up to that of pairing p.
pub record IsRowBehind (problem : Problem) (k : ℕ) (timeline : Timeline) (values : List ℤ) (p need : ℕ)
    (row : List ℤ) : Type 0 where
  pub each : (class : ℕ) → class ≤ class_of timeline p
      → IsBehindAt problem k timeline values p need class (row_at row class)
  pub within : All (IsWithin MOST_BEHIND) row

-- So it is with each of its rows.
abbrev pub AreRowsBehind : Problem → ℕ → Timeline → List ℤ → ℕ → OwedRows → Type 0
AreRowsBehind problem k timeline values p rows =
    (need : ℕ) → IsRowBehind problem k timeline values p need (row_for rows need)

-- the first of the pairings, if there is one, has that rank or a later one
abbrev pub IsFrom : Timeline → ℕ → List ℕ → Type 0
IsFrom timeline from path = (q : ℕ) (rest : List ℕ) → path ≡ q ∷ rest → from ≤ rank_of timeline q

-- What stands behind in a legal set brings no less, if it begins at that rank or later.
pub record IsTailBehind (problem : Problem) (k : ℕ) (timeline : Timeline) (values : List ℤ) (from : ℕ)
    (tail : ℤ) : Type 0 where
  pub each : (before rest : List ℕ) → IsPath problem k timeline (before ++ rest)
      → IsFrom timeline from rest → tail ≤ℤ total (value_at values) rest
  pub within : IsWithin MOST_BEHIND tail

-- no path brings less
abbrev pub IsBegunBehind : Problem → ℕ → Timeline → List ℤ → ℤ → Type 0
IsBegunBehind problem k timeline values begun =
    (path : List ℕ) → IsPath problem k timeline path → begun ≤ℤ total (value_at values) path

-- So it is with the rows of each pairing, with the tail from each rank on, and with what any path brings.
pub record AreBehind (problem : Problem) (k : ℕ) (timeline : Timeline) (values : List ℤ)
    (behind : Behind) : Type 0 where
  pub covers : length behind.rows.items ≡ length problem.pairings
  pub rows : (p : ℕ) (rows : OwedRows) → slice_get behind.rows.items p ≡ Some rows
      → AreRowsBehind problem k timeline values p rows
  pub longer : length behind.tails.items ≡ length timeline.order.items + 1
  pub tails : (from : ℕ) (tail : ℤ) → slice_get behind.tails.items from ≡ Some tail
      → IsTailBehind problem k timeline values from tail
  pub begun : IsBegunBehind problem k timeline values behind.begun
  pub within : IsWithin MOST_BEHIND behind.begun

-- The amount is no more than nothing, if a path may end at pairing p, than what begins at some rank or
-- behind, and than what each pairing of a rank before that leads to which may follow p, if a recurrent rest
-- may lie before it. So many pairs of days off still have to come.
pub record IsBase (timeline : Timeline) (values : List ℤ) (behind : Behind) (p need until : ℕ)
    (base : ℤ) : Type 0 where
  pub end : MayEnd timeline p need → base ≤ℤ pos 0
  pub tail : until < length timeline.order.items → (tail : ℤ) → slice_get behind.tails.items until ≡ Some tail
      → base ≤ℤ tail
  pub rested : (s q : ℕ) (rows : OwedRows) (amount : ℤ) → rank_of timeline p < s → s < until
      → slice_get timeline.order.items s ≡ Some q → is_among (later_than timeline p) q ≡ true
      → is_among (unrested_after timeline p) q ≡ false → slice_get behind.rows.items q ≡ Some rows
      → lowest ≤ℤ amount
      → (value_at values q
      +ℤ row_at (row_for rows (need_behind timeline p q need)) (class_of timeline q)) ≤ℤ amount
      → base ≤ℤ amount
  pub within : IsWithin MOST_BEHIND base

-- The amount is no more than what pairing q leads to as the first one.
abbrev pub IsFirstAt : Timeline → List ℤ → Behind → ℕ → ℤ → Type 0
IsFirstAt timeline values behind q first =
    (rows : OwedRows) (amount : ℤ) → slice_get behind.rows.items q ≡ Some rows → lowest ≤ℤ amount
    → (value_at values q +ℤ row_at (row_for rows (need_first timeline q)) (class_of timeline q)) ≤ℤ amount
    → first ≤ℤ amount

-- The row is no more than the base, and than what each pairing of a rank before that leads to which may
-- follow p, if no recurrent rest lies before it.
pub record IsLed (timeline : Timeline) (values : List ℤ) (behind : Behind) (p need until : ℕ) (base : ℤ)
    (led : List ℤ) : Type 0 where
  pub kept : (class : ℕ) → row_at led class ≤ℤ base
  pub unrested : (s q class : ℕ) (rows : OwedRows) (amount : ℤ) → rank_of timeline p < s → s < until
      → slice_get timeline.order.items s ≡ Some q → is_among (unrested_after timeline p) q ≡ true
      → slice_get behind.rows.items q ≡ Some rows → low_of timeline q ≤ class
      → class ≤ class_of timeline p → lowest ≤ℤ amount
      → (value_at values q +ℤ row_at (row_for rows (need_behind timeline p q need)) class) ≤ℤ amount
      → row_at led class ≤ℤ amount
  pub within : All (IsWithin MOST_BEHIND) led
