use Rattle.std.proofs.Common.{◌+◌, arith, rules}
use Rattle.std.proofs.lemmas.Option.{get_or_from_slice_get}
use Rattle.roster_model.proofs.WindowLemmas.{night-lasts}
use Rattle.roster_restrules.proofs.recovery.holds_night.Goals as goal

pub common-rest-requires-clause-second : goal.common-rest-requires-clause-second
common-rest-requires-clause-second c =
    let days = c.args.days.now in
    let ten = get_or_from_slice_get days.ten c.args.night c.ten.result 0 c.ten.ensures.value in
    let eight = get_or_from_slice_get days.eight (c.args.night + 1) c.eight.result 0 c.eight.ensures.value in
    let lasts = night-lasts days c.requires.table c.args.night c.requires.within in
    omega (arith, ten, eight, lasts)

pub returns : goal.returns
returns c =
    let days = c.args.days.now in
    let ten = get_or_from_slice_get days.ten c.args.night c.ten.result 0 c.ten.ensures.value in
    let eight = get_or_from_slice_get days.eight (c.args.night + 1) c.eight.result 0 c.eight.ensures.value in
    rw (ten, eight) (search rules)
