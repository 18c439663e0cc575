use Rattle.std.proofs.Common.{rules, ◌≡◌, ◌<◌, ◌==◌, false, length}
use Rattle.roster_desk_fault.proofs.Lines.{parts_say_first}
use Rattle.roster_desk_fault.proofs.telling.told_text.Goals as goal

pub returns : goal.returns
returns c begins =
    let fits : c.args.first.row < 18446744073709551616 = search rules in
    let some : (length c.args.all.now == 0) ≡ false = search rules in
    parts_say_first c.args.first c.args.all.now _ _ _ fits some begins c.in_ok-out.ensures c.in_ok-extend_from_slice.ensures.items
