-- Pairs of days off that are still to come from one duty to the next.
use Rattle.std.proofs.Common.{◌≡◌, ℕ, ◌+◌, ◌-◌, ◌<◌, ◌≤◌, Bool, false, eqb, List, Some, refl, sym, ◌∙◌, subst, inl, inr, arith}
use Rattle.std.specs.Prelude.{◌⊎◌, filter, slice_get, slice_index}
use Rattle.std.specs.Int.{bit_at}
use Rattle.std.proofs.lemmas.Bool.{cases_lt}
use Rattle.std.proofs.lemmas.Bool.Decides.{nat_tests}
use Rattle.std.proofs.lemmas.List.Elements.{All-filter}
use Rattle.roster_model.specs.Calendar.{Days, IsTable, common}
use Rattle.roster_model.specs.declared.limits.TheConstants.{DAYS_BEFORE, LAST_INSTANT}
use Rattle.roster_model.specs.Problem.{Problem, home_of}
use Rattle.roster_model.specs.records.Duty.{Duty}
use Rattle.roster_model.specs.Rules.{duty_list, is_listed}
use Rattle.roster_model.specs.Rules.DaysOff.{IsPairOff, KeepsDaysOff}
use Rattle.roster_problem.specs.Duties.{AreTimed}
use Rattle.roster_lines_table.proofs.Lists.{All-slice_get}
use Rattle.roster_restrules.specs.Busy.{AreBusyDays}
use Rattle.roster_restrules.proofs.DaysOff.{days-from_pair}
use Rattle.roster_legal.proofs.Parts.Listed.{IsPart, shorter}
use Rattle.roster_plan_bound.specs.declared.days_off.DaysOff.{DaysOff}
use Rattle.roster_plan_bound.specs.DaysOffs.{pairs_by, HasPairsFrom, IsOffFrom, IsOverBy, IsPairFrom, IsSoonest}

-- ---- how many there may have been

all_by : (off : DaysOff) (instant : ℕ) → off.twice ≤ instant → pairs_by off instant ≡ 2
all_by off instant over = grind (arith, nat_tests)

some_by : (off : DaysOff) (instant : ℕ) → off.once ≤ instant → 1 ≤ pairs_by off instant
some_by off instant over = grind (arith, nat_tests)

-- ---- on one list

module _ (days : Days) (list : List Duty) where
  -- no pair off lies across a duty's report
  apart : (i j : ℕ) (duty : Duty) → AreTimed list → IsPairOff days list i → slice_get list j ≡ Some duty
      → (slice_index days.mid (i + 2) ≤ duty.report) ⊎ (duty.report ≤ slice_index days.mid i)
  apart i j duty timed off at =
      let none = All-slice_get (λ d. common d.report d.release (slice_index days.mid i) (slice_index days.mid (i + 2)) ≡ 0) list j duty off.free at in
      let longer = All-slice_get (λ d. d.report < d.release) list j duty timed at in
      elim (cases_lt duty.report (slice_index days.mid (i + 2))) [
        | inl before ↦ inr (omega (arith, none, longer, before))
        | inr past ↦ inl past
      ]

  module _ (off : DaysOff) (soonest : IsSoonest days list off) where
    -- what isn't over by a duty's report is still to come
    pub owed-next : (from need j : ℕ) (duty : Duty) → AreTimed list → slice_get list j ≡ Some duty
        → from ≡ duty.report → HasPairsFrom days list off.from need
        → HasPairsFrom days list from (need - pairs_by off from)
    owed-next from need j duty timed at reports owed = record {
      few = let few = owed.few in omega (arith, few);
      first = owed.first;
      second = owed.second;
      once = λ some.
          let pair = owed.once (omega (arith, some)) in
          elim (apart owed.second j duty timed pair.off at) [
            | inl over ↦
                let one = some_by off from (let soon = (soonest.once owed.second pair).0 in omega (arith, soon, over, reports)) in
                elim (cases_lt 1 need) [
                  | inl more ↦
                      let two = owed.twice more in
                      let all = all_by off from (let soon = (soonest.twice owed.first owed.second two.0 two.1 pair).0 in omega (arith, soon, over, reports)) in
                      let few = owed.few in
                      absurd (omega (arith, all, few, some))
                  | inr less ↦ absurd (omega (arith, one, less, some))
                ]
            | inr later ↦ record { begins = omega (arith, later, reports); off = pair.off }
          ];
      twice = λ many.
          let few = owed.few in
          let two = owed.twice (omega (arith, many)) in
          elim (apart owed.first j duty timed two.1.off at) [
            | inl over ↦
                let one = some_by off from (let soon = (soonest.once owed.first two.1).0 in omega (arith, soon, over, reports)) in
                absurd (omega (arith, one, few, many))
            | inr later ↦ (two.0, record { begins = omega (arith, later, reports); off = two.1.off })
          ];
    }

    -- no more are to come than there may be
    pub owed-last : (need : ℕ) → HasPairsFrom days list off.from need → need ≤ pairs_by off LAST_INSTANT
    owed-last need owed =
        elim (cases_lt 0 need) [
          | inl some ↦
              let pair = owed.once some in
              let one = some_by off LAST_INSTANT (soonest.once owed.second pair).1 in
              elim (cases_lt 1 need) [
                | inl more ↦
                    let two = owed.twice more in
                    let all = all_by off LAST_INSTANT (soonest.twice owed.first owed.second two.0 two.1 pair).1 in
                    let few = owed.few in
                    omega (arith, all, few)
                | inr less ↦ omega (arith, one, less)
              ]
          | inr none ↦ omega (arith, none)
        ]

  -- a list that keeps days off has two pairs from the first instant on
  pub owed-first : (from : ℕ) → from ≡ 0 → KeepsDaysOff days list → HasPairsFrom days list from 2
  owed-first from zero keeps = record {
    few = omega arith;
    first = keeps.first;
    second = keeps.second;
    once = λ some. record { begins = omega (arith, zero); off = keeps.twice };
    twice = λ more. (keeps.apart, record { begins = omega (arith, zero); off = keeps.once });
  }

  -- and any list has none
  pub owed-none : (from : ℕ) → HasPairsFrom days list from 0
  owed-none from = record {
    few = omega arith;
    first = 0;
    second = 0;
    once = λ some. absurd (omega (arith, some));
    twice = λ more. absurd (omega (arith, more));
  }

-- ---- the soonest ones

free-part : (days : Days) (test : Duty → Bool) (list : List Duty) (i : ℕ) → IsPairOff days list i
    → IsPairOff days (filter test list) i
free-part days test list i off = record {
  begins = off.begins;
  ends = off.ends;
  free = All-filter test (λ duty. common duty.report duty.release (slice_index days.mid i) (slice_index days.mid (i + 2)) ≡ 0) list off.free;
}

pub off-part : (days : Days) (problem : Problem) (k : ℕ) (set part : List ℕ) → IsPart part set → (i : ℕ)
    → IsPairOff days (duty_list problem k set) i → IsPairOff days (duty_list problem k part) i
off-part days problem k set part within i off =
    subst (λ list. IsPairOff days list i) (shorter problem k set part within)
    (free-part days (λ duty. is_listed k part duty.holder) (duty_list problem k set) i off)

-- its two days lie in the month, and no bit of theirs is set
pub pair-bits : (days : Days) (list : List Duty) (busy i : ℕ) → IsTable days → AreBusyDays days list busy
    → IsPairOff days list (DAYS_BEFORE + i)
    → (i + 1 < days.month_days) × (eqb (bit_at busy i) 1 ≡ false) × (eqb (bit_at busy (i + 1)) 1 ≡ false)
pair-bits days list busy i table are off =
    let free = days-from_pair days table list i off in
    (free.0, are i (omega (arith, free.0)) ∙ free.1, are (i + 1) free.0 ∙ free.2)

-- the first pair that begins late enough is over no later than any other one
module _ (problem : Problem) (k : ℕ) (part : List ℕ) (from begin first second once twice : ℕ) where
  abbrev days : Days
  days = (home_of problem k).days

  -- the first one of some day or a later one
  abbrev IsFirstPair : ℕ → ℕ → Type 0
  IsFirstPair day found =
      (i : ℕ) → day ≤ i → IsPairOff days (duty_list problem k part) (DAYS_BEFORE + i) → found ≤ i

  -- over no later than each one of that day or a later one
  abbrev IsEnd : ℕ → ℕ → Type 0
  IsEnd day end =
      (i : ℕ) → day ≤ i → i + 2 ≤ days.month_days → IsOverBy days (DAYS_BEFORE + i) end

  pub soonest-first : ((i : ℕ) → i < days.month_days → from ≤ slice_index days.mid (DAYS_BEFORE + i) → begin ≤ i)
      → IsFirstPair begin first → IsFirstPair (first + 2) second → IsEnd first once → IsEnd second twice
      → IsOffFrom problem k part from (record { from = from; once = once; twice = twice })
  soonest-first begins is_first is_second ends ends_twice = record {
    begins = refl;
    soonest = λ set within. record {
      once = λ i pair.
          subst (λ n. IsOverBy days n once) (sym (in_month set i pair.off))
          (ends (i - DAYS_BEFORE) (after set within i pair) (inside set i pair.off));
      twice = λ i j apart one other.
          let at = in_month set j other.off in
          let before = in_month set i one.off in
          let late : first + 2 ≤ j - DAYS_BEFORE = omega (arith, after set within i one, apart, before, at) in
          subst (λ n. IsOverBy days n twice) (sym at)
          (ends_twice (j - DAYS_BEFORE) (is_second (j - DAYS_BEFORE) late (off_at set within j other.off)) (inside set j other.off));
    };
  }
    where
      in_month : (set : List ℕ) (i : ℕ) → IsPairOff days (duty_list problem k set) i
          → i ≡ DAYS_BEFORE + (i - DAYS_BEFORE)
      in_month set i off = let begins = off.begins in omega (arith, begins)

      inside : (set : List ℕ) (i : ℕ) → IsPairOff days (duty_list problem k set) i
          → i - DAYS_BEFORE + 2 ≤ days.month_days
      inside set i off =
          let begins = off.begins in
          let ends = off.ends in
          omega (arith, begins, ends)

      off_at : (set : List ℕ) → IsPart part set → (i : ℕ) → IsPairOff days (duty_list problem k set) i
          → IsPairOff days (duty_list problem k part) (DAYS_BEFORE + (i - DAYS_BEFORE))
      off_at set within i off =
          subst (IsPairOff days (duty_list problem k part)) (in_month set i off) (off-part days problem k set part within i off)

      after : (set : List ℕ) → IsPart part set → (i : ℕ) → IsPairFrom days (duty_list problem k set) from i
          → first ≤ i - DAYS_BEFORE
      after set within i pair =
          let long = inside set i pair.off in
          is_first (i - DAYS_BEFORE)
          (begins (i - DAYS_BEFORE) (omega (arith, long)) (subst (λ n. from ≤ slice_index days.mid n) (in_month set i pair.off) pair.begins))
          (off_at set within i pair.off)
