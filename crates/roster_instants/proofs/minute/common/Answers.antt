use Rattle.std.proofs.Common.{arith}
use Rattle.std.proofs.lemmas.Int.{ints, clamps}
use Rattle.roster_instants.proofs.minute.common.Goals as goal

pub returns : goal.returns
returns c = omega (arith, ints, clamps, c.get.ensures.value, c.get-2.ensures.value, c.get-3.ensures.value, c.get-4.ensures.value)
