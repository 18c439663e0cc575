use Rattle.std.proofs.Common.{rules, ◌≡◌}
use Rattle.std.specs.Fmt.{decimal}
use Rattle.roster_desk_fault.proofs.Lines.{says_fault}
use Rattle.roster_desk_fault.proofs.telling.with_line.Goals as goal

pub returns : goal.returns
returns c =
    let row : c.as_bytes.result.now ≡ decimal c.args.row = search rules in
    let code : c.as_bytes-2.result.now ≡ decimal c.args.code = search rules in
    says_fault c.args.row c.args.code _ _ _ _ _ c.new-out.ensures.items c.in_ok-push_all.ensures row code
