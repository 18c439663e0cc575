use Rattle.std.proofs.Common.{refl}
use Rattle.roster_book.proofs.draft.Draft.with_roster.Goals as goal

pub new-requires-clause-sound : goal.new-requires-clause-sound
new-requires-clause-sound c = rw c.into_vec.ensures c.requires.sound

pub new-requires-clause-faultless : goal.new-requires-clause-faultless
new-requires-clause-faultless c = rw c.into_vec.ensures c.requires.faultless

pub returns : goal.returns
returns c = (rw c.into_vec.ensures at c.in_ok-new.ensures, refl, refl)
