use Rattle.std.proofs.Common.{arith}
use Rattle.std.proofs.lemmas.Int.{ints}
use Rattle.roster_model.specs.Costs.{cost_of}
use Rattle.roster_cost.proofs.Fits.{roster_fits}
use Rattle.roster_cost.proofs.roster.roster_cost.Goals as goal

pub returns : goal.returns
unfolding cost_of
returns c =
    let penalties = c.open_penalties-open.ensures in
    let units = c.placed_units.ensures in
    let missed = c.missed_targets-missed.ensures in
    omega (arith, ints, roster_fits, penalties.value, penalties.bound, units.value, units.bound.0, units.bound.1, missed.value, missed.bound)
