use Rattle.std.proofs.Common.{◌+◌, rules}
use Rattle.std.proofs.lemmas.Option.{get_or_from_slice_get}
use Rattle.roster_restrules.proofs.times.can_hold.Goals as goal

pub returns : goal.returns
returns c =
    let days = c.args.days.now in
    let eight = get_or_from_slice_get days.eight (c.args.night + 1) c.eight.result 0 c.eight.ensures.value in
    rw eight (search rules)
