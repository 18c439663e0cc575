use Rattle.std.proofs.Common.{[], ◌∷◌, arith}
use Rattle.std.proofs.lemmas.Int.{ints}
use Rattle.roster_model.specs.Problem.{units_of}
use Rattle.roster_model.proofs.CostLemmas.{total-nil, total-cons, total-append}
use Rattle.roster_cost.proofs.laws.one_pairing_more.Goals as goal

pub returns-clause-units : goal.returns-clause-units
returns-clause-units c problem k p set =
    let units = units_of problem k in
    omega (arith, ints, total-append units set (p ∷ []), total-cons units p [], total-nil units)
