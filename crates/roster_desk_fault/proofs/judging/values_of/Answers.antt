use Rattle.std.proofs.Common.{◌++◌, ◌∷◌, [], subst, sym}
use Rattle.std.specs.List.{AllZip}
use Rattle.roster_desk_fault.specs.Firsts.{IsValue}
use Rattle.roster_desk_fault.proofs.Values.{one_more_value}
use Rattle.roster_desk_fault.proofs.judging.values_of.Goals as goal

pub loop-told-preserved : goal.loop-told-preserved
loop-told-preserved c =
    subst (λ faults. AllZip IsValue (c.loop-told.yielded ++ c.in-Some.told ∷ []) faults) (sym c.in_ok-push.ensures.items)
    (one_more_value _ _ _ _ c.loop-told.invariant c.in_ok-value_of.ensures)
