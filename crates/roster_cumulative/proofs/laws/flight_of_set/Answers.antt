use Rattle.roster_cumulative.proofs.ListedFlight.{month_flight-set}
use Rattle.roster_cumulative.proofs.laws.flight_of_set.Goals as goal

pub returns : goal.returns
returns c = month_flight-set
