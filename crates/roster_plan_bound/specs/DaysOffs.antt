-- Pairs of days off that a duty list still has from an instant on.
use Rattle.std.specs.Prelude.{◌≡◌, ℕ, ◌+◌, ◌<◌, ◌≤◌, if◌then◌else◌, nat_le, List, slice_index, true}
use Rattle.roster_model.specs.Calendar.{Days}
use Rattle.roster_model.specs.declared.limits.TheConstants.{LAST_INSTANT}
use Rattle.roster_model.specs.Problem.{Problem, home_of}
use Rattle.roster_model.specs.records.Duty.{Duty}
use Rattle.roster_model.specs.Rules.{duty_list, is_among}
use Rattle.roster_model.specs.Rules.DaysOff.{IsPairOff}
use Rattle.roster_plan_bound.specs.declared.days_off.DaysOff.{DaysOff}

-- how many times there may have been two days off in a row by that instant, as far as twice
abbrev pub pairs_by : DaysOff → ℕ → ℕ
pairs_by off instant =
    if nat_le off.twice instant then 2 else if nat_le off.once instant then 1 else 0

-- days i and i + 1 are off, and begin no earlier than the instant
pub record IsPairFrom (days : Days) (list : List Duty) (from i : ℕ) : Type 0 where
  pub begins : from ≤ slice_index days.mid i
  pub off : IsPairOff days list i

-- The list has so many such pairs, two at most, that share no day.
pub record HasPairsFrom (days : Days) (list : List Duty) (from count : ℕ) : Type 0 where
  pub few : count ≤ 2
  pub first : ℕ
  pub second : ℕ
  pub once : 0 < count → IsPairFrom days list from second
  pub twice : 1 < count → (first + 2 ≤ second) × IsPairFrom days list from first

-- the instant comes no later than the end of days i and i + 1
abbrev pub IsOverBy : Days → ℕ → ℕ → Type 0
IsOverBy days i instant = (instant ≤ slice_index days.mid (i + 2)) × (instant ≤ LAST_INSTANT)

-- No such pair of the list is over before `once`, and none that comes behind one before `twice`.
pub record IsSoonest (days : Days) (list : List Duty) (off : DaysOff) : Type 0 where
  pub once : (i : ℕ) → IsPairFrom days list off.from i → IsOverBy days i off.once
  pub twice : (i j : ℕ) → i + 2 ≤ j → IsPairFrom days list off.from i → IsPairFrom days list off.from j
      → IsOverBy days j off.twice

-- So it is from that instant on with each set of person k that has all of these pairings.
pub record IsOffFrom (problem : Problem) (k : ℕ) (part : List ℕ) (from : ℕ) (off : DaysOff) : Type 0 where
  pub begins : off.from ≡ from
  pub soonest : (set : List ℕ) → ((p : ℕ) → is_among part p ≡ true → is_among set p ≡ true)
      → IsSoonest (home_of problem k).days (duty_list problem k set) off
