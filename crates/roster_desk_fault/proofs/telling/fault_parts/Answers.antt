use Rattle.std.proofs.Common.{subst}
use Rattle.roster_desk_words.proofs.Parts.{next_part}
use Rattle.roster_desk_fault.specs.Told.{IsPart}
use Rattle.roster_desk_fault.proofs.telling.fault_parts.Goals as goal

pub loop-told-preserved : goal.loop-told-preserved
loop-told-preserved c =
    next_part IsPart c.args.all.now _ c.told-item.result _ _ _ _ c.loop-told-test.true c.loop-told.invariant
    (subst (λ told. IsPart told c.in_ok-part.part.items) c.told-item.is c.in_ok-part.ensures)
    c.as_slice.ensures.value c.in_ok-extend_from_slice.ensures.items
