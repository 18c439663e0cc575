use Rattle.std.proofs.Common.{◌/◌, arith, bit_and, subst}
use Rattle.roster_restrules.specs.Busy.{ArePairsOff}
use Rattle.roster_restrules.proofs.DaysOff.{off_bits, pair_bits}
use Rattle.roster_restrules.proofs.days_off.pairs_off.Goals as goal

pub returns-clause-bits : goal.returns-clause-bits
returns-clause-bits c =
    let n = c.month_days.result in
    let off = off_bits n c.args.busy in
    subst (λ days. ArePairsOff days c.args.busy (bit_and off (off / 2))) c.month_days.ensures.value
    (pair_bits n c.args.busy (omega (arith, c.month_days.ensures.most)) (omega arith))
