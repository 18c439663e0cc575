use Rattle.roster_values.proofs.Words.{IsSet-zeros, places_in-zeros}
use Rattle.roster_values.proofs.set.Set.empty.Goals as goal

pub invariant_of-result : goal.invariant_of-result
invariant_of-result c = IsSet-zeros

pub returns : goal.returns
returns c = places_in-zeros
