use Rattle.std.proofs.Common.{◌≡◌, ◌<◌, ◌≤◌, false, Some, slice_get}
use Rattle.roster_model.specs.records.Duty.{Duty}
use Rattle.roster_problem.specs.View.{holder_of}
use Rattle.roster_desk_chart.specs.Bands.{is_one}
use Rattle.roster_desk_chart.proofs.Steps.{below-more, no-later}
use Rattle.roster_desk_chart.proofs.bands.name_end.Goals as goal

pub loop-j-preserved : goal.loop-j-preserved
loop-j-preserved c =
    let list = c.args.list.now in
    let end = c.end_at-end.result in
    below-more
    (λ j. (duty : Duty) → slice_get list j ≡ Some duty → c.args.i < j → is_one (holder_of c.args.own) duty.holder ≡ false → end ≤ duty.report)
    c.loop-j.j
    (λ j below duty at later other. no-later end c.loop-j.end duty.report c.end_at-end.ensures.least (c.loop-j.invariant j below duty at later other))
    c.end_at-end.ensures.report
