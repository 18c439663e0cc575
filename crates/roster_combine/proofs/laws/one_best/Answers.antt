use Rattle.roster_model.specs.Rosters.{key_of}
use Rattle.roster_model.proofs.KeyLemmas.{key_le-antisym}
use Rattle.roster_combine.proofs.laws.one_best.Goals as goal

pub returns : goal.returns
returns c problem a b first second =
    key_le-antisym (key_of problem a) (key_of problem b) (first.least b second.is_legal tt)
    (second.least a first.is_legal tt)
