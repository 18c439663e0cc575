-- Fewer minutes keep the limits that more keep.
use Rattle.std.proofs.Common.{ℕ, ◌+◌, ◌-◌, ◌≤◌, arith}
use Rattle.std.specs.List.{range_with_len}
use Rattle.std.proofs.lemmas.List.Elements.{All-weaker}
use Rattle.std.proofs.lemmas.List.Sums.{sum_by-le-sum_by}
use Rattle.roster_model.specs.declared.limits.TheConstants.{DAYS_BEFORE}
use Rattle.roster_model.specs.Calendar.{Days}
use Rattle.roster_model.specs.Rules.Limits.{KeepsLimit}
use Rattle.roster_model.specs.Sums.{in_month, in_run, judged_days}

pub KeepsLimit-lighter : (f g : ℕ → ℕ) → ((i : ℕ) → f i ≤ g i) → (days : Days) (n most : ℕ)
    → KeepsLimit g days n most → KeepsLimit f days n most
KeepsLimit-lighter f g fewer days n most keeps =
    All-weaker (λ last. in_run g n last ≤ most) (λ last. in_run f n last ≤ most) (λ last within. let sum = sum_by-le-sum_by f g (range_with_len (last + 1 - n) n) fewer in omega (arith, sum, within)) (judged_days days) keeps

pub in_month-lighter : (f g : ℕ → ℕ) → ((i : ℕ) → f i ≤ g i) → (days : Days)
    → in_month f days ≤ in_month g days
in_month-lighter f g fewer days = sum_by-le-sum_by f g (range_with_len DAYS_BEFORE days.month_days) fewer
