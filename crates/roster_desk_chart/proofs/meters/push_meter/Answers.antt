use Rattle.std.proofs.lemmas.Result.{on_ok_weaker}
use Rattle.roster_desk_chart.proofs.meters.push_meter.Goals as goal

pub returns : goal.returns
returns c =
    on_ok_weaker c.push_amount.result
    (λ put. (c.standing-amount.result, c.standing-amount.ensures, c.as_slice.result.now, put)) c.push_amount.ensures
