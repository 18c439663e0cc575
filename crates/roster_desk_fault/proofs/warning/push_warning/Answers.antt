use Rattle.std.proofs.Common.{rules, ◌≡◌, ◌+◌, ◌++◌, [], codes}
use Rattle.std.specs.Fmt.{decimal}
use Rattle.roster_desk_fault.proofs.Lines.{word_is_told}
use Rattle.roster_desk_fault.proofs.warning.push_warning.Goals as goal

pub returns : goal.returns
returns c is =
    let word : c.as_bytes-2.result.now ≡ c.args.word.now = search rules in
    let number : c.as_bytes.result.now ≡ decimal (c.args.warning.now.at + 1) = search rules in
    let all : c.push_all.new.out.items
    ≡ c.args.out.now.items ++ (codes "WARN " ++ (c.as_bytes.result.now ++ (codes " " ++ (c.as_bytes-2.result.now
    ++ (codes "\n" ++ (c.as_slice.result.now ++ [])))))) = c.in_ok-push_all.ensures in
    word_is_told c.args.word.now _ _ _ _ _ _ is all number word
