use Rattle.roster_model.proofs.SetLemmas.{places_of_number}
use Rattle.roster_test_reference.proofs.plain.is_legal_roster.Goals as goal

pub is_legal-requires-clause-places : goal.is_legal-requires-clause-places
is_legal-requires-clause-places c =
    rw (c.of_places-set.ensures, ← c.requires.covers) (places_of_number c.loop-k.k c.args.places.now)
