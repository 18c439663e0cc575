-- How near to each limit persons are.
use Rattle.std.specs.Prelude.{◌≡◌, ◌++◌, ◌==◌, ℕ, Bool, List, None, Option, Some, [], codes, false, length, true}
use Rattle.std.specs.List.{range_with_len}
use Rattle.roster_model.specs.Calendar.{Period}
use Rattle.roster_model.specs.Places.{set_of}
use Rattle.roster_model.specs.Problem.{Problem, eleven_of, home_of, year_of}
use Rattle.roster_model.specs.Rules.{LimitRule, duty_list, word_of_rule}
use Rattle.roster_model.specs.records.Duty.{Duty}
use Rattle.roster_legal_reasons.specs.Amounts.{IsUse, left_of}
use Rattle.roster_legal_reasons.specs.Bounds.{bound_of}
use Rattle.roster_legal_reasons.specs.declared.amounts.Amount.{Amount}
use Rattle.roster_legal_reasons.specs.declared.amounts.Amount.TheVariants as amounts
use Rattle.roster_values.specs.View.{limit_of}
use Rattle.roster_values.specs.declared.rule.Limit.{Limit}
use Rattle.roster_values.specs.declared.rule.Limit.TheVariants as limits
use Rattle.roster_values.specs.declared.rule.TheConstants.Limit.{ALL}
use Rattle.roster_desk_words.specs.Parts.{AreParts}
use Rattle.roster_desk_words.specs.Words.{day_text, person_at, time_text}

-- what the limit counts in a run of days
abbrev pub counted_text : Limit → List ℕ
counted_text limits.Duty7 = codes " of duty in the 7 days to "
counted_text limits.Duty14 = codes " of duty in the 14 days to "
counted_text limits.Duty28 = codes " of duty in the 28 days to "
counted_text limits.Flight28 = codes " of flight in the 28 days to "
counted_text limits.FlightYear = codes " of flight in the year to "
counted_text limits.Flight12 = codes " of flight in 12 months to "

-- how much is used of the limit in the month, which has so many days
abbrev pub use_text : Period → ℕ → Limit → Amount → List ℕ
use_text period month_days limit (amounts.Run run) =
    time_text run.minutes ++ counted_text limit ++ day_text period month_days run.last ++ codes " of "
    ++ time_text run.most
use_text period month_days limit (amounts.Month month) =
    time_text month.flown ++ codes " of flight in the month and " ++ time_text month.carried
    ++ codes " before it of " ++ time_text month.most

-- whose limit it is, how much is used, and what is left
abbrev pub limit_text : Problem → ℕ → Limit → Amount → List ℕ
limit_text problem k limit amount =
    person_at problem k ++ codes " " ++ word_of_rule (LimitRule (limit_of limit)) ++ codes ": "
    ++ use_text problem.period (home_of problem k).days.month_days limit amount
    ++ codes ", " ++ time_text (left_of amount) ++ codes " left"

-- the line tells how much of the limit person k uses with these duties
pub record IsLimitLine (problem : Problem) (list : List Duty) (k : ℕ) (limit : Limit) (line : List ℕ) : Type 0 where
  pub amount : Amount
  pub is : IsUse (home_of problem k).days list
      (bound_of (year_of problem k) (eleven_of problem k) (limit_of limit)) amount
  pub text : line ≡ limit_text problem k limit amount ++ codes "\n"

-- a line for each limit of the person with the roster, if the person is told of
abbrev pub AreLimitLines : Bool → Problem → List ℕ → ℕ → List ℕ → Type 0
AreLimitLines false problem places k text = text ≡ []
AreLimitLines true problem places k text = AreParts (IsLimitLine problem (duty_list problem k (set_of k places)) k) ALL text

-- the person is the one that is named, or none is
abbrev pub is_meant : Option ℕ → ℕ → Bool
is_meant None k = true
is_meant (Some named) k = named == k

-- the lines of each person who is meant, in book order
abbrev pub IsLimitsText : Problem → List ℕ → Option ℕ → List ℕ → Type 0
IsLimitsText problem places named text =
    AreParts (λ k. AreLimitLines (is_meant named k) problem places k) (range_with_len 0 (length problem.persons)) text
