use Rattle.std.proofs.Common.{refl}
use Rattle.roster_desk_fault.proofs.judging.push_told.Goals as goal

pub returns : goal.returns
returns c within =
    record { told = record { at = c.args.at; code = c.args.code; found = c.in_ok-found.found }; place = refl; number = refl; all = c.in_ok-push.ensures.items }
