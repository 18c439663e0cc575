use Rattle.roster_model.proofs.SetLemmas.{places_of_number}
use Rattle.roster_report.proofs.said.verdict_of.Goals as goal

pub first_broken-requires-clause-places : goal.first_broken-requires-clause-places
first_broken-requires-clause-places c =
    rw (c.of_places-set.ensures, ← c.requires.covers) (places_of_number c.args.k c.args.places.now)
