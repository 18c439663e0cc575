use Rattle.std.proofs.Common.{arith, sym, subst}
use Rattle.std.proofs.lemmas.List.Elements.{All-push}
use Rattle.roster_plan.specs.Bases.{AreWholes, IsWhole}
use Rattle.roster_plan.proofs.whole.wholes_of.Goals as goal
use Rattle.roster_plan.proofs.whole.wholes_of.Goals.{then-is_open+in_ok-push, else-is_open}

pub loop-base-preserved : goal.loop-base-preserved
loop-base-preserved c problem = elim c.if-is_open.branch [
  | then-is_open+in_ok-push w ↦
      subst (λ vec. AreWholes problem vec.items) (sym w.wholes-is)
      (subst (AreWholes problem) (sym w.in_ok-push.ensures.items)
      (All-push (IsWhole problem) c.loop-base.wholes.items _ (c.loop-base.invariant problem)
      (record { base = omega arith; found = tt })))
  | else-is_open w ↦ subst (λ vec. AreWholes problem vec.items) (sym w.wholes-is) (c.loop-base.invariant problem)
]
