-- How the definitions see who holds a duty.
use Rattle.roster_problem.specs.declared.duty.Holder.{Holder}
use Rattle.roster_problem.specs.declared.duty.Holder.TheVariants as holders
use Rattle.roster_model.specs.records.Duty as model

abbrev pub holder_of : Holder → model.Holder
holder_of (holders.Pairing p) = model.OfPairing p
holder_of (holders.Person k) = model.OfPerson k
