use Rattle.std.proofs.Common.{◌≡◌, ℕ, ◌+◌, ◌<◌, ◌≤◌, List, get_or, length, take, ap, ◌∙◌, subst, arith}
use Rattle.std.specs.List.{sum_by}
use Rattle.std.proofs.lemmas.List.Sums.{sum_by_more, sum_by-take-le}
use Rattle.roster_model.specs.declared.limits.TheConstants.{LAST_INSTANT}
use Rattle.roster_model.specs.records.Duty.{Duty, Sector}
use Rattle.roster_model.specs.Sums.{flight_between, flown_between}
use Rattle.roster_cumulative.proofs.Flown.{flown-le}
use Rattle.roster_cumulative.proofs.table.add_flight.Goals as goal

pub returns-clause-bound : goal.returns-clause-bound
returns-clause-bound c =
    let i = c.duty.inside in
    subst (λ (duty : Duty). (from to : ℕ) → flight_between duty from to ≤ LAST_INSTANT) c.duty.view_is
    (λ from to. flown-le i.report i.release from to LAST_INSTANT i.sectors.items c.duty.invariant.1 c.get.ensures.bound)

pub add_sector-requires-clause-light : goal.add_sector-requires-clause-light
add_sector-requires-clause-light c = λ k.
    let i = c.duty.inside in
    let from = get_or c.args.days.now.mid k 0 in
    let to = get_or c.args.days.now.mid (k + 1) 0 in
    let whole = subst (λ (duty : Duty). flight_between duty from to ≤ LAST_INSTANT) c.duty.view_is
    (flown-le i.report i.release from to LAST_INSTANT i.sectors.items c.duty.invariant.1 c.get.ensures.bound) in
    let part =
    sum_by-take-le
    (λ (s : Sector). flown_between s from to) c.args.duty.now.sectors c.loop-sector.sector-index in
    omega (arith, c.loop-sector.invariant k, c.requires.light k, whole, part)

pub loop-sector-preserved : goal.loop-sector-preserved
loop-sector-preserved c = λ k.
    let from = get_or c.args.days.now.mid k 0 in
    let to = get_or c.args.days.now.mid (k + 1) 0 in
    let flown = λ (s : Sector). flown_between s from to in
    let sector = c.sector-item.result in
    let sectors = c.args.duty.now.sectors in
    let i = c.loop-sector.sector-index in
    let before = get_or c.args.table.now k 0 in
    let items = c.deref-sector-items.ensures.value ∙ ap (λ (duty : Duty). duty.sectors) c.duty.view_is in
    let inside : i < length sectors =
    subst (λ (list : List Sector). i < length list) items c.loop-sector-test.true in
    let here : flown sector ≡ flown (get_or sectors i sector) =
    ap flown (c.sector-item.is ∙ ap (λ (list : List Sector). get_or list i sector) items) in
    let more = sum_by_more flown sectors i sector inside in
    let sum : before + sum_by flown (take i sectors) + flown sector
    ≡ before + sum_by flown (take (i + 1) sectors) =
    omega (arith, here, more) in
    c.add_sector.ensures k ∙ (ap (λ m. m + flown sector) (c.loop-sector.invariant k) ∙ sum)
