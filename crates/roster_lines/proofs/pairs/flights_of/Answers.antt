use Rattle.std.proofs.Common.{◌≡◌}
use Rattle.roster_cost.specs.Amounts.{minutes_of_pairing}
use Rattle.roster_model.proofs.PushLemmas.{each-next}
use Rattle.roster_lines.proofs.pairs.flights_of.Goals as goal

pub loop-p-preserved : goal.loop-p-preserved
loop-p-preserved c =
    let next = each-next (λ p minutes. minutes ≡ minutes_of_pairing c.args.problem.now c.args.k p) c.loop-p.p c.loop-p.flights.items _ _ c.in_ok-push.ensures.items c.loop-p.invariant.long c.loop-p.invariant.each c.pairing_flight.ensures in
    record { long = next.0; each = next.1 }
