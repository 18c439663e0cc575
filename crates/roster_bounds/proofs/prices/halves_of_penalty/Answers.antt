use Rattle.std.proofs.Common.{◌*◌, ◌≤◌, ap, arith}
use Rattle.std.proofs.Math.Nat.{mul-le-mul_left}
use Rattle.std.proofs.lemmas.Int.{ints}
use Rattle.roster_model.specs.records.Pairing.{Pairing}
use Rattle.roster_bounds.proofs.prices.halves_of_penalty.Goals as goal

pub returns-clause-fits : goal.returns-clause-fits
returns-clause-fits c =
    let few : c.from-2.result ≤ 2 = omega (arith, c.from-2.ensures, c.requires.halves) in
    let most : c.from.result * c.from-2.result ≤ c.from.result * 2 = mul-le-mul_left c.from.result few in
    let penalty = ap (λ (pairing : Pairing). pairing.penalty) c.pairing.view_is in
    let limit = c.requires.limit in
    (omega (arith, ints, most, limit, penalty, c.from.ensures), omega (arith, ints, most, limit, penalty, c.from.ensures))
