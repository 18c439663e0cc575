use Rattle.std.proofs.Common.{◌≡◌, length, sym, ◌∙◌, arith}
use Rattle.std.proofs.lemmas.List.{same_lists}
use Rattle.std.proofs.lemmas.Option.{same_Some, slice_get-get_or}
use Rattle.roster_search.proofs.parting.are_same.Goals as goal

pub returns : goal.returns
returns c same =
    let mine = c.args.mine.now in
    let theirs = c.args.theirs.now in
    let long : length mine ≡ length theirs = omega (arith, c.len.ensures, c.len-2.ensures, c.if-len.false) in
    same_lists mine theirs long (λ m d inside.
    let at = c.loop-i.invariant m (omega (arith, inside, c.loop-i-test.false, c.len-i-end.ensures)) in
    same_Some _ _
    (sym (slice_get-get_or mine m d inside) ∙ at ∙ slice_get-get_or theirs m d (omega (arith, inside, long))))
