use Rattle.roster_desk_words.proofs.Parts.{next_part}
use Rattle.roster_desk_fault.specs.Kinds.{kind_of}
use Rattle.roster_desk_fault.specs.Told.{IsCounted}
use Rattle.roster_desk_fault.proofs.telling.counts.Goals as goal

pub loop-kind-preserved : goal.loop-kind-preserved
loop-kind-preserved c =
    next_part (λ kind. IsCounted (kind_of kind)) c.args.kinds.now _ _ _ _ _ _ c.loop-kind-test.true
    c.loop-kind.invariant c.in_ok-line.ensures c.as_slice.ensures.value c.in_ok-extend_from_slice.ensures.items
