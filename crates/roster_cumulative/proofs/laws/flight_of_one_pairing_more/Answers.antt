use Rattle.roster_cumulative.proofs.ListedFlight.{month_flight-one_more}
use Rattle.roster_cumulative.proofs.laws.flight_of_one_pairing_more.Goals as goal

pub returns : goal.returns
returns c = month_flight-one_more
