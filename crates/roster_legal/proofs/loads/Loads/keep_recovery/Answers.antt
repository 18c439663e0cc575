use Rattle.std.proofs.Common.{subst}
use Rattle.std.specs.Prelude.{◌↔◌, IsTrue}
use Rattle.roster_model.specs.Problem.{home_of}
use Rattle.roster_model.specs.Rules.Recovery.{KeepsRecovery}
use Rattle.roster_problem.specs.Duties.{picked}
use Rattle.roster_legal.specs.Stepping.{IsLoaded, Loaded}
use Rattle.roster_legal.proofs.loads.Loads.keep_recovery.Goals as goal

pub returns : goal.returns
returns c =
    let loaded = c.args.self.now in
    let timed = c.self.inside.times in
    let positions = c.args.positions.now in
    let yes = IsTrue c.keep_recovery.result in
    let known =
    subst (λ (l : Loaded). IsLoaded l timed c.self.inside.loads.items) c.self.view_is c.self.invariant in
    subst
    (λ ds. yes ↔ KeepsRecovery (home_of loaded.problem loaded.person).days (picked ds positions)) known.duties
    (subst (λ d. yes ↔ KeepsRecovery d (picked timed.duties positions)) known.days c.keep_recovery.ensures)
