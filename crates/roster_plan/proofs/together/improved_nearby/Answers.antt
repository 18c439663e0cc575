use Rattle.std.proofs.Common.{◌∙◌, ℤ, sym, subst, w64, FitsSigned, rules}
use Rattle.std.proofs.lemmas.Int.{to_z-of_z}
use Rattle.roster_model.specs.Settled.{IsHeld, IsLowerBound}
use Rattle.roster_plan.proofs.PlannedLemmas.{on_from, same_on}
use Rattle.roster_plan.proofs.together.improved_nearby.Goals as goal

pub so_far-planned-requires-clause-bound : goal.so_far-planned-requires-clause-bound
so_far-planned-requires-clause-bound g c =
    let bound : ℤ = c.args.start.planned.bound in
    let fits : FitsSigned w64 bound = search rules in
    subst (IsLowerBound c.args.lent.now.problem.now)
    (sym (to_z-of_z w64 bound fits)) c.requires.month.known.bounded

pub loop-init : goal.loop-init
loop-init g c =
    same_on c.args.lent.now.problem.now c.args.start.planned.roster c.so_far-planned.result c.so_far-planned.ensures.known
    (c.so_far-planned.ensures.roster ∙ c.in_ok-roster.ensures)

pub try_all-requires-clause-held : goal.try_all-requires-clause-held
try_all-requires-clause-held g c = λ lifetimes outlive.
    subst (IsHeld c.args.lent.now.problem.now) (sym c.in_ok-before.ensures) c.loop.invariant.known.held

pub loop-preserved : goal.loop-preserved
loop-preserved g c =
    on_from c.args.lent.now.problem.now c.args.start.planned.roster c.loop.planned c.in_ok-planned.planned c.loop.invariant c.in_ok-planned.ensures
