use Rattle.std.proofs.Common.{ℕ, ◌+◌, ◌<◌, ◌≤◌, ap, arith, rules, subst, sym}
use Rattle.std.proofs.lemmas.Option.{get_or_from_slice_get}
use Rattle.roster_model.specs.declared.limits.TheConstants.{DAYS_BEFORE}
use Rattle.roster_model.specs.records.Duty.{Duty}
use Rattle.roster_restrules.proofs.DutyDays.{AreDaysBelow, days-kept, days-none, days-set, days-whole, lies_between, lies_not_before, lies_not_early, lies_not_later}
use Rattle.roster_restrules.proofs.days_off.days_of.Goals.{then-lt, else-lt}
use Rattle.roster_restrules.proofs.days_off.days_of.Goals as goal

pub loop-i-init : goal.loop-i-init
loop-i-init c =
    let days = c.args.days.now in
    let ended : (d : ℕ) → d < c.saturating_sub-first.result → DAYS_BEFORE + d + 1 < c.mornings_by.result =
    λ d below. omega (arith, c.saturating_sub-first.ensures) in
    let report = ap (λ (d : Duty). d.report) c.duty.view_is in
    days-none days c.args.duty.now c.saturating_sub-first.result (λ d below inside.
    let morning = c.mornings_by.ensures.value.0 (DAYS_BEFORE + d + 1) 0 (let come = ended d below in omega (arith, c.mornings_by.ensures.bound)) (ended d below) in
    lies_not_early days c.mornings_by.ensures.table c.args.duty.now d
    (omega (arith, ended d below, c.mornings_by.ensures.bound)) (omega (arith, morning, report)))

pub returns-then-le : goal.returns-then-le
returns-then-le c =
    let days = c.args.days.now in
    let i = c.loop-i.i in
    let release = ap (λ (d : Duty). d.release) c.duty.view_is in
    let mid = get_or_from_slice_get days.mid (DAYS_BEFORE + i) c.mid.result 0 c.mid.ensures.value in
    let begun : c.duty.inside.release ≤ c.mid.result = search rules in
    days-whole days c.args.duty.now i c.loop-i.word c.loop-i.invariant (λ d past inside.
    lies_not_later days c.mid.ensures.table c.args.duty.now i d past inside
    (omega (arith, release, mid, begun)))

pub loop-i-preserved : goal.loop-i-preserved
loop-i-preserved c =
    let days = c.args.days.now in
    let duty = c.args.duty.now in
    let i = c.loop-i.i in
    let report = ap (λ (d : Duty). d.report) c.duty.view_is in
    let release = ap (λ (d : Duty). d.release) c.duty.view_is in
    let mid = get_or_from_slice_get days.mid (DAYS_BEFORE + i) c.mid.result 0 c.mid.ensures.value in
    let next =
    get_or_from_slice_get days.mid
    (DAYS_BEFORE + i + 1) c.mid-in-loop-i.result 0 c.mid-in-loop-i.ensures.value in
    let begun : c.mid.result < c.duty.inside.release = search rules in
    let lasts = c.duty.invariant.0 in
    let inside : i < days.month_days = omega (arith, c.loop-i-test.true, c.month_days-i-end.ensures.value) in
    elim c.if-lt.branch [
      | then-lt w ↦
          let later : c.duty.inside.report < c.mid-in-loop-i.result = search rules in
          let lies =
          lies_between days c.mid.ensures.table duty i inside (omega (arith, lasts, report, release))
          (omega (arith, mid, begun, release)) (omega (arith, later, report, next)) in
          subst (AreDaysBelow days duty (i + 1)) (sym w.word-is) (days-set days duty i c.loop-i.word (omega (arith, inside, c.month_days-i-end.ensures.most)) c.loop-i.invariant lies)
      | else-lt w ↦
          let later : c.mid-in-loop-i.result ≤ c.duty.inside.report = search rules in
          subst (AreDaysBelow days duty (i + 1)) (sym w.word-is) (days-kept days duty i c.loop-i.word c.loop-i.invariant (lies_not_before days duty i (omega (arith, later, report, next))))
    ]

pub returns : goal.returns
returns c =
    days-whole c.args.days.now c.args.duty.now c.loop-i.i c.loop-i.word c.loop-i.invariant
    (λ d past inside. absurd (omega (arith, c.loop-i-test.false, c.month_days-i-end.ensures.value)))
