-- How much of a limit a meter shows.
use Rattle.std.specs.Prelude.{◌≡◌, ℕ, ◌+◌, ◌-◌, ◌*◌, ◌/◌, ◌^◌, ◌==◌, Bool, nat_lt, if◌then◌else◌, List, [], ◌++◌, codes, min}
use Rattle.std.specs.Fmt.{decimal}
use Rattle.std.specs.List.{flat_map}
use Rattle.roster_model.specs.Problem.{Problem, home_of, year_of, eleven_of}
use Rattle.roster_model.specs.Rules.{Limit}
use Rattle.roster_model.specs.records.Duty.{Duty}
use Rattle.roster_legal_reasons.specs.Amounts.{IsUse}
use Rattle.roster_legal_reasons.specs.Bounds.{bound_of}
use Rattle.roster_legal_reasons.specs.declared.amounts.Amount.{Amount}
use Rattle.roster_legal_reasons.specs.declared.amounts.Amount.TheVariants as amounts
use Rattle.roster_desk_chart.specs.Markup.{shown_as}

-- the minutes that are used
abbrev pub used_of : Amount → ℕ
used_of (amounts.Run run) = run.minutes
used_of (amounts.Month month) = min (month.carried + month.flown) (2 ^ 64 - 1)

-- those that there may be
abbrev pub most_of : Amount → ℕ
most_of (amounts.Run run) = run.most
most_of (amounts.Month month) = month.most

-- the share that is used, in percent, 100 at most, and also if there may be nothing
abbrev pub percent_of : ℕ → ℕ → ℕ
percent_of used most = if most == 0 then 100 else min 100 (used * 100 / most)

-- the class of a meter, of its own if the limit is passed
abbrev pub class_of : Bool → List ℕ
class_of is_over = if is_over then codes " class=\"o\"" else []

-- what a meter begins with, which tells the title
abbrev pub head_of : Bool → List ℕ → List ℕ
head_of is_over title =
    codes "<span tabindex=\"-1\"" ++ class_of is_over ++ codes " title=\"" ++ flat_map shown_as title

-- its column, so many percent high
abbrev pub column_of : ℕ → List ℕ
column_of height = codes "\"><em style=\"height:" ++ decimal height ++ codes "%\"></em></span>"

-- the meter of an amount
abbrev pub meter_of : List ℕ → Amount → List ℕ
meter_of title amount =
    head_of (nat_lt (most_of amount) (used_of amount)) title
    ++ column_of (percent_of (used_of amount) (most_of amount))

-- a meter was put behind the text, of how much of the limit the person uses with the duties of the list
abbrev pub IsMeter : Problem → ℕ → List Duty → Limit → List ℕ → List ℕ → Type 0
IsMeter problem k list limit old new =
    (amount : Amount)
    × IsUse (home_of problem k).days list (bound_of (year_of problem k) (eleven_of problem k) limit) amount
    × (title : List ℕ) × (new ≡ old ++ meter_of title amount)
