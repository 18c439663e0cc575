use Rattle.std.proofs.Common.{subst}
use Rattle.roster_model.specs.Problem.{Problem}
use Rattle.roster_problem.specs.Duties.{AreFlown}
use Rattle.roster_problem.proofs.problem.Problem.duties.Goals as goal

pub returns-clause-flown : goal.returns-clause-flown
returns-clause-flown c =
    subst (λ (problem : Problem). AreFlown problem.duties) c.self.view_is c.self.invariant.flown
