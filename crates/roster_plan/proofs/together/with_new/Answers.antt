use Rattle.std.proofs.Common.{sym, subst, rules, w64, FitsSigned}
use Rattle.std.proofs.lemmas.Int.{to_z-of_z}
use Rattle.roster_model.specs.Settled.{IsLowerBound}
use Rattle.roster_plan.proofs.PlannedLemmas.{roster_on}
use Rattle.roster_plan.proofs.together.with_new.Goals as goal

pub so_far-planned-requires-clause-bound : goal.so_far-planned-requires-clause-bound
so_far-planned-requires-clause-bound g c =
    let fits : FitsSigned w64 c.args.start.bound = search rules in
    subst (IsLowerBound c.args.problem.now) (sym (to_z-of_z w64 c.args.start.bound fits)) c.requires.bounded

pub returns : goal.returns
returns g c =
    roster_on c.args.problem.now c.args.start.roster c.in_ok-roster.roster c.so_far-planned.result c.so_far-planned.ensures.known c.so_far-planned.ensures.roster c.in_ok-roster.ensures.kept
