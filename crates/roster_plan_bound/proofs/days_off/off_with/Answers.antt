use Rattle.std.proofs.Common.{ℕ, ◌+◌, ◌<◌, ◌≤◌, List, sym, subst}
use Rattle.std.specs.Prelude.{slice_index}
use Rattle.roster_model.specs.Calendar.{Days}
use Rattle.roster_model.specs.declared.limits.TheConstants.{DAYS_BEFORE}
use Rattle.roster_model.specs.records.Duty.{Duty}
use Rattle.roster_model.specs.Rules.{duty_list}
use Rattle.roster_model.specs.Rules.DaysOff.{IsPairOff}
use Rattle.roster_restrules.specs.Busy.{AreBusyDays}
use Rattle.roster_plan_bound.specs.DaysOffs.{IsOverBy}
use Rattle.roster_plan_bound.proofs.OffLemmas.{soonest-first}
use Rattle.roster_plan_bound.proofs.days_off.off_with.Goals as goal

pub returns : goal.returns
returns c =
    let problem = c.args.problem.now in
    let k : ℕ = c.args.k in
    let part : List ℕ = c.args.set.now in
    let from : ℕ = c.args.from in
    let days : Days = c.days_of-days.result.now in
    let home = c.days_of-days.ensures in
    let word : ℕ = c.busy_days-busy.result in
    let list : List Duty = duty_list problem k part in
    let busy : AreBusyDays days list word =
    subst (λ l. AreBusyDays days l word) c.in_ok-list.ensures.value c.busy_days-busy.ensures in
    let first : ℕ = c.pair_from-first.result in
    let second : ℕ = c.pair_from-second.result in
    soonest-first problem k part from c.day_from.result first second c.end_of.result c.end_of-2.result
    (subst (λ (d : Days). (i : ℕ) → i < d.month_days → from ≤ slice_index d.mid (DAYS_BEFORE + i) → c.day_from.result ≤ i) home c.day_from.ensures.first)
    (λ i above off. c.pair_from-first.ensures.first list i busy above (subst (λ (d : Days). IsPairOff d list (DAYS_BEFORE + i)) (sym home) off))
    (λ i above off. c.pair_from-second.ensures.first list i busy above (subst (λ (d : Days). IsPairOff d list (DAYS_BEFORE + i)) (sym home) off))
    (subst (λ (d : Days). (i : ℕ) → first ≤ i → i + 2 ≤ d.month_days → IsOverBy d (DAYS_BEFORE + i) c.end_of.result) home c.end_of.ensures)
    (subst (λ (d : Days). (i : ℕ) → second ≤ i → i + 2 ≤ d.month_days → IsOverBy d (DAYS_BEFORE + i) c.end_of-2.result) home c.end_of-2.ensures)
