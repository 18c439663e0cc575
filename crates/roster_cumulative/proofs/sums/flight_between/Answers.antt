use Rattle.std.proofs.Common.{◌≡◌, ◌+◌, ◌<◌, List, get_or, length, take, ap, ◌∙◌, subst, arith}
use Rattle.std.specs.List.{sum_by}
use Rattle.std.proofs.lemmas.List.Sums.{sum_by_more, sum_by-take-le}
use Rattle.roster_model.specs.records.Duty.{Duty, Sector}
use Rattle.roster_model.specs.Sums.{flown_between}
use Rattle.roster_problem.specs.Sectors.{AreSectors}
use Rattle.roster_cumulative.proofs.Flown.{flight_between-le}
use Rattle.roster_cumulative.proofs.sums.flight_between.Goals as goal

-- the sectors so far and one more
one_more : (c : goal.After-flown_between-total) → c.loop-sector.total + c.flown_between-total.result ≡ sum_by (λ s. flown_between s c.args.from c.args.to) (take (c.loop-sector.sector-index + 1) c.args.duty.now.sectors)
one_more c =
    let flown = λ (s : Sector). flown_between s c.args.from c.args.to in
    let sector = c.sector-item.result in
    let sectors = c.args.duty.now.sectors in
    let i = c.loop-sector.sector-index in
    let items = c.deref-sector-items.ensures.value ∙ ap (λ (duty : Duty). duty.sectors) c.duty.view_is in
    let inside : i < length sectors =
    subst (λ (list : List Sector). i < length list) items c.loop-sector-test.true in
    let here : flown sector ≡ flown (get_or sectors i sector) =
    ap flown (c.sector-item.is ∙ ap (λ (list : List Sector). get_or list i sector) items) in
    let more = sum_by_more flown sectors i sector inside in
    omega (arith, here, more, c.loop-sector.invariant, c.flown_between-total.ensures)

pub overflow_add-total : goal.overflow_add-total
overflow_add-total c =
    let duty = c.args.duty.now in
    let are =
    subst (λ (d : Duty). AreSectors d.report d.release d.sectors) c.duty.view_is c.duty.invariant.1 in
    let part =
    sum_by-take-le (λ (s : Sector). flown_between s c.args.from c.args.to) duty.sectors
    (c.loop-sector.sector-index + 1) in
    omega (arith, one_more c, part, flight_between-le duty c.args.from c.args.to are, c.get.ensures.bound)

pub loop-sector-preserved : goal.loop-sector-preserved
loop-sector-preserved c = one_more c

pub returns-clause-bound : goal.returns-clause-bound
returns-clause-bound c =
    let duty = c.args.duty.now in
    let are =
    subst (λ (d : Duty). AreSectors d.report d.release d.sectors) c.duty.view_is c.duty.invariant.1 in
    let part =
    sum_by-take-le
    (λ (s : Sector). flown_between s c.args.from c.args.to) duty.sectors c.loop-sector.sector-index in
    omega (arith, c.loop-sector.invariant, part, flight_between-le duty c.args.from c.args.to are)
