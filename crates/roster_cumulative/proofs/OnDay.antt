-- Which days of a window share minutes with the time from one instant to another.
use Rattle.std.proofs.Common.{◌≡◌, ℕ, zero, suc, ◌+◌, ◌<◌, ◌≤◌, pos, ◌<ℤ◌, true, Ordering, Less, Equal, Greater, is_le, int_cmp, length, get_or, Option, Some, None, refl, inl, inr, arith}
use Rattle.std.specs.Prelude.{slice_get, unwrap_or, MatchOption}
use Rattle.std.specs.Cmp.{int_ranks}
use Rattle.std.proofs.Math.ListN.{replicate}
use Rattle.std.specs.Ordering.{MatchOrdering}
use Rattle.std.proofs.lemmas.Bool.{cases_lt, false≢true}
use Rattle.std.proofs.lemmas.List.{get_or_past}
use Rattle.std.proofs.lemmas.Option.{get_or_from_slice_get, slice_get_within}
use Rattle.roster_model.specs.Calendar.{Days, IsDayOf, IsTable, common}
use Rattle.roster_model.proofs.WindowLemmas.{mids-in_order}

-- what the time from `from` to `to` shares with day j; days that the window lacks are empty
abbrev pub shares : Days → ℕ → ℕ → ℕ → ℕ
shares days from to j = common from to (get_or days.mid j 0) (get_or days.mid (j + 1) 0)

-- a table in which nothing is counted so far
pub zeros : (n i : ℕ) → get_or {A = ℕ} (replicate n 0) i 0 ≡ 0
zeros zero i = refl
zeros (suc n) zero = refl
zeros (suc n) (suc i) = zeros n i

over_before : (a b c d : ℕ) → d ≤ a → common a b c d ≡ 0
over_before a b c d before = omega arith

begun_after : (a b c d : ℕ) → b ≤ c → common a b c d ≡ 0
begun_after a b c d after = omega arith

ended : (a b c d : ℕ) → d ≡ 0 → common a b c d ≡ 0
ended a b c d none = omega arith

le_by_rank : (a b : ℕ) (rank : Ordering)
    → MatchOrdering rank (pos a <ℤ pos b) (pos a ≡ pos b) (pos b <ℤ pos a) → is_le rank ≡ true → a ≤ b
le_by_rank a b Less below h = grind arith
le_by_rank a b Equal same h = grind arith
le_by_rank a b Greater above h = absurd (false≢true h)

-- instants that compare so
pub le_from_cmp : (a b : ℕ) → is_le (int_cmp (pos a) (pos b)) ≡ true → a ≤ b
le_from_cmp a b h = le_by_rank a b (int_cmp (pos a) (pos b)) (int_ranks (pos a) (pos b)) h

-- the midnights of a day, as they are read, follow one another
pub midnights_rise : (days : Days) → IsTable days → (i start end : ℕ) → slice_get days.mid i ≡ Some start
    → slice_get days.mid (i + 1) ≡ Some end → start ≤ end
midnights_rise days table i start end at_start at_end =
    let long = table.mid in
    let inside = slice_get_within days.mid (i + 1) end at_end in
    let rises = mids-in_order days table i (i + 1) (omega arith) (omega arith) in
    rw (get_or_from_slice_get days.mid i start 0 at_start, get_or_from_slice_get days.mid (i + 1) end 0 at_end) at rises

-- what is added to a day, by its midnights as they are read
pub shares_read : (days : Days) → (from to i start end n : ℕ) → slice_get days.mid i ≡ Some start
    → slice_get days.mid (i + 1) ≡ Some end → n ≡ common from to start end → n ≡ shares days from to i
shares_read days from to i start end n at_start at_end is =
    rw (get_or_from_slice_get days.mid i start 0 at_start, get_or_from_slice_get days.mid (i + 1) end 0 at_end) is

-- days after the window
pub past_window : (days : Days) → IsTable days → (from to j : ℕ) → length days.eight ≤ j
    → shares days from to j ≡ 0
past_window days table from to j past =
    let long = table.mid in
    ended from to _ _ (get_or_past days.mid (j + 1) 0 (omega arith))

-- days from one on that begins after the time
pub past_time : (days : Days) → IsTable days → (from to i j : ℕ) → to ≤ get_or days.mid i 0 → i ≤ j
    → shares days from to j ≡ 0
past_time days table from to i j after from_i =
    elim (cases_lt j (length days.eight)) [
      | inl within ↦
          let later = mids-in_order days table i j from_i (omega arith) in
          begun_after from to _ _ (omega arith)
      | inr past ↦ past_window days table from to j past
    ]

before_its_day : (days : Days) → IsTable days → (from to i j : ℕ) → IsDayOf days from i → j < i
    → shares days from to j ≡ 0
before_its_day days table from to i j day before =
    let long = table.mid in
    let inside = slice_get_within days.mid (i + 1) day.ends day.next in
    let later = mids-in_order days table (j + 1) i (omega arith) (omega arith) in
    let begins = get_or_from_slice_get days.mid i day.begins 0 day.first in
    let early = day.from in
    over_before from to _ _ (omega arith)

-- days before the one that holds the first instant
pub before_time : (days : Days) → IsTable days → (from to first j : ℕ) → (found : Option ℕ)
    → MatchOption found ((i : ℕ) → ¬ (IsDayOf days from i)) (λ i. IsDayOf days from i)
    → first ≡ unwrap_or found 0 → j < first → shares days from to j ≡ 0
before_time days table from to first j None none is before = absurd (omega arith)
before_time days table from to first j (Some i) day is before =
    before_its_day days table from to i j day (omega arith)
