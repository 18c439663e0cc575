use Rattle.roster_desk_words.proofs.Parts.{next_part}
use Rattle.roster_desk_fault.specs.Told.{IsOfWord}
use Rattle.roster_desk_fault.proofs.warning_text.signs_text.Goals as goal

pub loop-sign-preserved : goal.loop-sign-preserved
loop-sign-preserved c =
    next_part (λ sign. IsOfWord sign.1.now) c.args.signs.now _ _ _ _ _ _ c.loop-sign-test.true
    c.loop-sign.invariant c.in_ok-text.ensures c.as_slice.ensures.value c.in_ok-extend_from_slice.ensures.items
