use Rattle.std.proofs.Common.{rules, ◌≡◌, ◌==◌, false, length}
use Rattle.roster_desk_fault.proofs.Lines.{word_goes_on}
use Rattle.roster_desk_fault.proofs.warning.push_more.Goals as goal

pub returns : goal.returns
returns c word is =
    let some : (length c.args.out.now.items == 0) ≡ false = search rules in
    word_goes_on word c.args.out.now.items _ _ some is c.in_ok-extend_from_slice.ensures.items
