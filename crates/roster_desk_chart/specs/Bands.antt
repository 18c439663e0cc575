-- What is drawn as one band.
use Rattle.std.specs.Prelude.{◌==◌, Bool, false}
use Rattle.roster_model.specs.records.Duty.{Holder, OfPairing, OfPerson}

-- duties of both are of one pairing
abbrev pub is_one : Holder → Holder → Bool
is_one (OfPairing p) (OfPairing q) = p == q
is_one (OfPairing p) (OfPerson k) = false
is_one (OfPerson j) other = false
