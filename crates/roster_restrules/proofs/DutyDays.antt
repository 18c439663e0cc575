-- The days of duties, as bits.
use Rattle.std.proofs.Common.{◌≡◌, ℕ, zero, suc, ◌+◌, ◌*◌, ◌%◌, ◌^◌, ◌<◌, ◌≤◌, true, false, ◌||◌, eqb, length, get_or, refl, sym, ap, ◌∙◌, subst, max, inl, inr, arith, bit_or, w32}
use Rattle.std.specs.Int.{bit_at}
use Rattle.std.proofs.lemmas.Bool.{cases_eq, cases_lt, lt-ltb, le-ltb}
use Rattle.std.proofs.lemmas.Nat.Bits.{bit_at-lt, bit_at-zero, bit_at_or, bit_at_set_same, bit_at_set_other}
use Rattle.roster_model.proofs.WindowLemmas.{day-rises, mids-in_order, mid-rises}
use Rattle.roster_model.specs.Calendar.{Days, IsTable}
use Rattle.roster_model.specs.declared.limits.TheConstants.{DAYS_BEFORE}
use Rattle.roster_model.specs.records.Duty.{Duty}
use Rattle.roster_restrules.specs.Busy.{lies_on}

-- ---- a duty and a day

-- It lies on no day that ends by its report,
pub lies_not_before : (days : Days) (duty : Duty) (i : ℕ)
    → get_or days.mid (DAYS_BEFORE + i + 1) 0 ≤ duty.report → lies_on days i duty ≡ false
lies_not_before days duty i h = le-ltb 0 _ (omega arith)

-- nor on one that begins at its release or later.
pub lies_not_after : (days : Days) (duty : Duty) (i : ℕ) → duty.release ≤ get_or days.mid (DAYS_BEFORE + i) 0
    → lies_on days i duty ≡ false
lies_not_after days duty i h = le-ltb 0 _ (omega arith)

-- So it lies on none before a day that has its 08:00 by its report,
pub lies_not_early : (days : Days) → IsTable days → (duty : Duty) (i : ℕ)
    → DAYS_BEFORE + i + 1 < length days.eight → get_or days.eight (DAYS_BEFORE + i + 1) 0 ≤ duty.report
    → lies_on days i duty ≡ false
lies_not_early days table duty i inside h =
    let day = day-rises days table (DAYS_BEFORE + i + 1) inside in
    lies_not_before days duty i (omega (arith, day.0, h))

-- nor on one after a day that begins at its release or later.
pub lies_not_later : (days : Days) → IsTable days → (duty : Duty) (i j : ℕ) → i ≤ j → j < days.month_days
    → duty.release ≤ get_or days.mid (DAYS_BEFORE + i) 0 → lies_on days j duty ≡ false
lies_not_later days table duty i j order inside h =
    let long = table.eight in
    let later = mids-in_order days table (DAYS_BEFORE + i) (DAYS_BEFORE + j) (omega arith) (omega arith) in
    lies_not_after days duty j (omega (arith, h, later))

-- It lies on each other day.
pub lies_between : (days : Days) → IsTable days → (duty : Duty) (i : ℕ) → i < days.month_days
    → duty.report < duty.release → get_or days.mid (DAYS_BEFORE + i) 0 < duty.release
    → duty.report < get_or days.mid (DAYS_BEFORE + i + 1) 0 → lies_on days i duty ≡ true
lies_between days table duty i inside lasts begins ends =
    let long = table.eight in
    let day = mid-rises days table (DAYS_BEFORE + i) (DAYS_BEFORE + i + 1) (omega arith) (omega arith) in
    lt-ltb 0 _ (omega (arith, day))

-- ---- the days of a duty, one after another

-- the bits below i are those of its days, and no other bit is set
pub record AreDaysBelow (days : Days) (duty : Duty) (i word : ℕ) : Type 0 where
  pub done : (d : ℕ) → d < i → d < days.month_days → eqb (bit_at word d) 1 ≡ lies_on days d duty
  pub rest : (d : ℕ) → i ≤ d → bit_at word d ≡ 0

module _ (days : Days) (duty : Duty) where
  -- no bit, if it lies on none of these days
  pub days-none : (i : ℕ) → ((d : ℕ) → d < i → d < days.month_days → lies_on days d duty ≡ false)
      → AreDaysBelow days duty i 0
  days-none i none = record {
    done = λ d below inside. ap (λ b. eqb b 1) (bit_at-zero d) ∙ sym (none d below inside);
    rest = λ d past. bit_at-zero d;
  }

  -- one more bit, if it lies on the next
  pub days-set : (i word : ℕ) → i < 32 → AreDaysBelow days duty i word → lies_on days i duty ≡ true
      → AreDaysBelow days duty (i + 1) (bit_or word (1 * 2 ^ i % 2 ^ 32))
  days-set i word small below lies = record {
    done = λ d before inside. elim (cases_eq d i) [
      | inl same ↦ subst (λ k. eqb (bit_at (bit_or word (1 * 2 ^ i % 2 ^ 32)) k) 1 ≡ lies_on days k duty) (sym same) (ap (λ b. eqb b 1) (bit_at_set_same w32 word i small) ∙ sym lies)
      | inr other ↦ ap (λ b. eqb b 1) (bit_at_set_other w32 word i small d other) ∙ below.done d (omega arith) inside
    ];
    rest = λ d past. bit_at_set_other w32 word i small d (λ e. omega arith) ∙ below.rest d (omega arith);
  }

  -- the same bits, if it doesn't
  pub days-kept : (i word : ℕ) → AreDaysBelow days duty i word → lies_on days i duty ≡ false
      → AreDaysBelow days duty (i + 1) word
  days-kept i word below lies = record {
    done = λ d before inside. elim (cases_eq d i) [
      | inl same ↦ subst (λ k. eqb (bit_at word k) 1 ≡ lies_on days k duty) (sym same) (ap (λ b. eqb b 1) (below.rest i (omega arith)) ∙ sym lies)
      | inr other ↦ below.done d (omega arith) inside
    ];
    rest = λ d past. below.rest d (omega arith);
  }

  -- the bits of the whole month, if it lies on no day from i on
  pub days-whole : (i word : ℕ) → AreDaysBelow days duty i word
      → ((d : ℕ) → i ≤ d → d < days.month_days → lies_on days d duty ≡ false) → (d : ℕ)
      → d < days.month_days → eqb (bit_at word d) 1 ≡ lies_on days d duty
  days-whole i word below none d inside =
      elim (cases_lt d i) [
        | inl before ↦ below.done d before inside
        | inr past ↦ ap (λ b. eqb b 1) (below.rest d past) ∙ sym (none d past inside)
      ]

-- ---- the days of two duties

either_one : (a b : ℕ) → a < 2 → b < 2 → eqb (max a b) 1 ≡ (eqb a 1 || eqb b 1)
either_one zero b l m = let same : max 0 b ≡ b = omega arith in ap (λ n. eqb n 1) same
either_one (suc zero) zero l m = refl
either_one (suc zero) (suc zero) l m = refl
either_one (suc zero) (suc (suc b)) l m = absurd (omega arith)
either_one (suc (suc a)) b l m = absurd (omega arith)

-- the bits of either word
pub bit_of_either : (a b i : ℕ) → eqb (bit_at (bit_or a b) i) 1 ≡ (eqb (bit_at a i) 1 || eqb (bit_at b i) 1)
bit_of_either a b i = ap (λ n. eqb n 1) (bit_at_or a b i) ∙ either_one _ _ (bit_at-lt a i) (bit_at-lt b i)
