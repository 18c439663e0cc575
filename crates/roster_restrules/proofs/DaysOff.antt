-- Pairs of days off, as minutes and as bits.
use Rattle.std.proofs.Common.{◌≡◌, ℕ, zero, suc, ◌+◌, ◌-◌, ◌*◌, ◌/◌, ◌%◌, ◌^◌, ◌<◌, ◌≤◌, Bool, true, false, not, eqb, ltb, List, length, get_or, refl, sym, ap, ◌∙◌, subst, min, inl, inr, arith, bit_and, w32, lit<}
use Rattle.std.specs.Prelude.{◌↔◌}
use Rattle.std.specs.Int.{bit_at, bit_not, trailing_zeros}
use Rattle.std.specs.List.{list_any}
use Rattle.std.proofs.Math.Pow.{pow-lt}
use Rattle.std.proofs.lemmas.Bool.{cases_eq, cases_lt, false≢true, both_ways, ne_eqb, le-ltb, ltb-false, false_from_ne_true}
use Rattle.std.proofs.lemmas.List.Folds.{list_any_at, list_any_none}
use Rattle.std.proofs.lemmas.Nat.Bits.{bit_at-lt, bit_at-suc, bit_at-zero, bit_at_and, bit_at_not, bit_at_ones, bit_at_ones_above, bit_at-trailing_zeros}
use Rattle.roster_model.proofs.WindowLemmas.{mids-in_order}
use Rattle.roster_model.specs.Calendar.{Days, IsTable, common}
use Rattle.roster_model.specs.declared.limits.TheConstants.{DAYS_BEFORE}
use Rattle.roster_model.specs.records.Duty.{Duty}
use Rattle.roster_model.specs.Rules.DaysOff.{IsPairOff, KeepsDaysOff}
use Rattle.roster_values.proofs.Words.{first_bit_from, no_bit_from}
use Rattle.roster_restrules.specs.Busy.{lies_on, is_busy, AreBusyDays, ArePairsOff}

-- ---- two days

-- an interval shares no minute with two days just if it shares none with each
common_of_each : (a b c d e : ℕ) → c ≤ d → d ≤ e → common a b c e ≡ 0
    → (common a b c d ≡ 0) × (common a b d e ≡ 0)
common_of_each a b c d e first second none = (omega arith, omega arith)

common_of_both : (a b c d e : ℕ) → c ≤ d → d ≤ e → common a b c d ≡ 0 → common a b d e ≡ 0
    → common a b c e ≡ 0
common_of_both a b c d e first second once twice = omega arith

shares_none : (n : ℕ) → ltb 0 n ≡ false → n ≡ 0
shares_none n h = let none = ltb-false 0 n h in omega arith

-- if no element passes a test, the one at k doesn't
none_at : {X : Type 0} (test : X → Bool) (xs : List X) → list_any test xs ≡ false → (k : ℕ) (x : X)
    → k < length xs → test (get_or xs k x) ≡ false
none_at test xs none k x inside =
    false_from_ne_true (test (get_or xs k x)) (λ h. both_ways _ none (list_any_at test xs k x inside h))

module _ (days : Days) (table : IsTable days) (list : List Duty) where
  -- Two days of the month in a row on which no duty lies are a pair off,
  pub pair-from_days : (i : ℕ) → i + 1 < days.month_days → is_busy days list i ≡ false
      → is_busy days list (i + 1) ≡ false → IsPairOff days list (DAYS_BEFORE + i)
  pair-from_days i inside first second = record {
    begins = omega arith;
    ends = omega arith;
    free = λ k duty within.
        let long = table.eight in
        let next : DAYS_BEFORE + (i + 1) ≡ DAYS_BEFORE + i + 1 = omega arith in
        let last : DAYS_BEFORE + i + 1 + 1 ≡ DAYS_BEFORE + i + 2 = omega arith in
        let begins =
        mids-in_order days table (DAYS_BEFORE + i) (DAYS_BEFORE + i + 1) (omega arith) (omega arith) in
        let ends =
        mids-in_order days table (DAYS_BEFORE + i + 1) (DAYS_BEFORE + i + 2) (omega arith)
        (omega arith) in
        let once = shares_none _ (none_at (lies_on days i) list first k duty within) in
        let twice = shares_none _ (none_at (lies_on days (i + 1)) list second k duty within) in
        let there = rw (next, last) at twice in
        common_of_both _ _ _ _ _ begins ends once there;
  }

  -- and on those of a pair off no duty lies.
  pub days-from_pair : (i : ℕ) → IsPairOff days list (DAYS_BEFORE + i)
      → (i + 1 < days.month_days) × (is_busy days list i ≡ false) × (is_busy days list (i + 1) ≡ false)
  days-from_pair i pair =
      let ends : i + 1 < days.month_days = let h = pair.ends in omega arith in
      let long = table.eight in
      let next : DAYS_BEFORE + i + 1 ≡ DAYS_BEFORE + (i + 1) = omega arith in
      let last : DAYS_BEFORE + i + 2 ≡ DAYS_BEFORE + (i + 1) + 1 = omega arith in
      let first =
      mids-in_order days table (DAYS_BEFORE + i) (DAYS_BEFORE + i + 1) (omega arith) (omega arith) in
      let second = mids-in_order days table (DAYS_BEFORE + i + 1) (DAYS_BEFORE + i + 2) (omega arith) (omega arith) in (
        ends,
        list_any_none (lies_on days i) list (λ k duty within. le-ltb 0 _ (let each = common_of_each _ _ _ _ _ first second (pair.free k duty within) in omega (arith, each.0))),
        list_any_none (lies_on days (i + 1)) list (λ k duty within. le-ltb 0 _ (let each = common_of_each _ _ _ _ _ first second (pair.free k duty within) in let there = rw (next, last) at each.1 in omega (arith, there))),
      )

-- ---- days off as bits

is_zero : (b : ℕ) → b < 2 → eqb b 1 ≡ false → b ≡ 0
is_zero zero l h = refl
is_zero (suc zero) l h = absurd (false≢true (sym h))
is_zero (suc (suc b)) l h = absurd (omega arith)

-- the word of the days of a month that are off
abbrev pub off_bits : ℕ → ℕ → ℕ
off_bits n busy = bit_and (bit_not w32 busy) (1 * 2 ^ n % 2 ^ 32 - 1)

month_bits : (n : ℕ) → n < 32 → 1 * 2 ^ n % 2 ^ 32 - 1 ≡ 2 ^ n - 1
month_bits n l = let small : 2 ^ n < 2 ^ 32 = pow-lt l in omega (arith, small)

-- those of its days that are not busy
off_bit : (n busy i : ℕ) → n < 32 → busy < 2 ^ 32
    → bit_at (off_bits n busy) i ≡ 1 ↔ ((i < n) × (bit_at busy i ≡ 0))
off_bit n busy i short fits =
    let both = bit_at_and (bit_not w32 busy) (1 * 2 ^ n % 2 ^ 32 - 1) i in
    let month = ap (λ word. bit_at word i) (month_bits n short) in
    elim (cases_lt i n) [
      | inl inside ↦
          let flipped = bit_at_not w32 busy i fits (omega arith) in
          let one = bit_at_ones n i inside in
          let small = bit_at-lt busy i in
          (λ h. (inside, omega (arith, both, month, flipped, one, small)), λ off. omega (arith, both, month, flipped, one, off.1))
      | inr past ↦
          let none = bit_at_ones_above n i past in
          (λ h. absurd (omega (arith, both, month, none, h)), λ off. absurd (omega (arith, off.0)))
    ]

-- those of them whose next day is off too
pub pair_bits : (n busy : ℕ) → n < 32 → busy < 2 ^ 32
    → ArePairsOff n busy (bit_and (off_bits n busy) (off_bits n busy / 2))
pair_bits n busy short fits i =
    let off = off_bits n busy in
    let next : suc i ≡ i + 1 = omega arith in
    let both : bit_at (bit_and off (off / 2)) i ≡ min (bit_at off i) (bit_at off (i + 1)) =
    bit_at_and off (off / 2) i
    ∙ ap (λ b. min (bit_at off i) b) (sym (bit_at-suc off i) ∙ ap (bit_at off) next) in
    let small = bit_at-lt off i in
    let small_next = bit_at-lt off (i + 1) in
    let here = off_bit n busy i short fits in
    let there = off_bit n busy (i + 1) short fits in (
      λ h.
          let first = here.0 (omega (arith, both, h, small, small_next)) in
          let second = there.0 (omega (arith, both, h, small, small_next)) in
          (second.0, first.1, second.1),
      λ pair.
          let first = here.1 (omega (arith, pair.0), pair.1) in
          let second = there.1 (pair.0, pair.2) in
          both ∙ omega (arith, first, second),
    )

-- ---- pairs of days

module _ (days : Days) (table : IsTable days) (list : List Duty) (busy pairs : ℕ)
    (are : AreBusyDays days list busy) (bits : ArePairsOff days.month_days busy pairs) where
  pair_of_bit : (i : ℕ) → bit_at pairs i ≡ 1 → IsPairOff days list (DAYS_BEFORE + i)
  pair_of_bit i h =
      let off = (bits i).0 h in
      pair-from_days days table list i off.0 (sym (are i (omega (arith, off.0))) ∙ ap (λ b. eqb b 1) off.1)
      (sym (are (i + 1) off.0) ∙ ap (λ b. eqb b 1) off.2)

  bit_of_pair : (i : ℕ) → IsPairOff days list (DAYS_BEFORE + i) → bit_at pairs i ≡ 1
  bit_of_pair i pair =
      let off = days-from_pair days table list i pair in
      (bits i).1 (off.0, is_zero _ (bit_at-lt busy i) (are i (omega (arith, off.0)) ∙ off.1), is_zero _ (bit_at-lt busy (i + 1)) (are (i + 1) off.0 ∙ off.2))

  -- the bits at which such pairs begin
  bits_of_pairs : KeepsDaysOff days list
      → (i : ℕ) × (j : ℕ) × (i + 2 ≤ j) × (bit_at pairs i ≡ 1) × (bit_at pairs j ≡ 1)
  bits_of_pairs keeps =
      let first = keeps.once.begins in
      let second = keeps.twice.begins in
      let apart = keeps.apart in
      let i : ℕ = keeps.first - DAYS_BEFORE in
      let j : ℕ = keeps.second - DAYS_BEFORE in
      let at_first : keeps.first ≡ DAYS_BEFORE + i = omega arith in
      let at_second : keeps.second ≡ DAYS_BEFORE + j = omega arith in
      (i, j, omega arith, bit_of_pair i (subst (IsPairOff days list) at_first keeps.once), bit_of_pair j (subst (IsPairOff days list) at_second keeps.twice))

  -- a word with no bit leaves none,
  pub keeps-none : pairs ≡ 0 → ¬ KeepsDaysOff days list
  keeps-none none keeps =
      let at = bits_of_pairs keeps in
      let bit : bit_at pairs at.0 ≡ 0 = ap (λ word. bit_at word at.0) none ∙ bit_at-zero at.0 in
      omega (arith, bit, at.3)

  -- and others leave two if a bit is set two or more past the lowest one.
  keeps-from_bits : 0 < pairs → pairs < 2 ^ 32 → 0 < pairs / 2 ^ (trailing_zeros w32 pairs + 2)
      → KeepsDaysOff days list
  keeps-from_bits some fits more =
      let lowest = bit_at-trailing_zeros w32 pairs some fits in
      let wide : 2 ^ 32 < 2 ^ 64 = lit< tt in
      let next = first_bit_from pairs (trailing_zeros w32 pairs + 2) (omega (arith, wide)) more in
      record {
        first = DAYS_BEFORE + trailing_zeros w32 pairs;
        second = _;
        apart = omega (arith, next.0);
        once = pair_of_bit (trailing_zeros w32 pairs) lowest.1;
        twice = pair_of_bit _ next.2;
      }

  -- Others leave none.
  keeps-not : 0 < pairs → pairs < 2 ^ 32 → pairs / 2 ^ (trailing_zeros w32 pairs + 2) ≡ 0
      → ¬ KeepsDaysOff days list
  keeps-not some fits none keeps =
      let lowest = bit_at-trailing_zeros w32 pairs some fits in
      let at = bits_of_pairs keeps in
      elim (cases_lt at.0 (trailing_zeros w32 pairs)) [
        | inl below ↦ absurd (omega (arith, lowest.2 at.0 below, at.3))
        | inr past ↦ absurd (omega (arith, no_bit_from pairs (trailing_zeros w32 pairs + 2) none at.1 (omega (arith, past, at.2)), at.4))
      ]

  pub keeps-iff : 0 < pairs → pairs < 2 ^ 32
      → (not (eqb (pairs / 2 ^ (trailing_zeros w32 pairs + 2)) 0) ≡ true) ↔ KeepsDaysOff days list
  keeps-iff some fits =
      elim (cases_eq (pairs / 2 ^ (trailing_zeros w32 pairs + 2)) 0) [
        | inl none ↦ (λ h. absurd (both_ways _ (ap (λ n. not (eqb n 0)) none) h), λ keeps. absurd (keeps-not some fits none keeps))
        | inr more ↦ (λ h. keeps-from_bits some fits (omega (arith, more)), λ keeps. ap not (ne_eqb _ 0 more))
      ]

-- the lowest pair begins before the month's last day
pub lowest-inside : (n busy pairs : ℕ) → ArePairsOff n busy pairs → 0 < pairs → pairs < 2 ^ 32
    → trailing_zeros w32 pairs + 1 < n
lowest-inside n busy pairs bits some fits =
    let lowest = bit_at-trailing_zeros w32 pairs some fits in
    ((bits (trailing_zeros w32 pairs)).0 lowest.1).0
