use Rattle.std.proofs.Common.{arith}
use Rattle.std.proofs.lemmas.Nat.Gcd.{IsGcd-from_mod, IsGcd-from_zero}
use Rattle.roster_search_regions.proofs.units.common.Goals as goal

pub loop-rest-preserved : goal.loop-rest-preserved
loop-rest-preserved c g both =
    c.loop-rest.invariant g (IsGcd-from_mod c.loop-rest.divisor c.loop-rest.rest g both)

pub returns : goal.returns
returns c =
    c.loop-rest.invariant c.loop-rest.divisor
    (IsGcd-from_zero c.loop-rest.divisor c.loop-rest.rest (omega arith))
