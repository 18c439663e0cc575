use Rattle.std.proofs.Common.{List, subst}
use Rattle.std.specs.Prelude.{◌↔◌, IsTrue}
use Rattle.roster_model.specs.Calendar.{Days}
use Rattle.roster_model.specs.Problem.{home_of}
use Rattle.roster_model.specs.records.Duty.{Duty}
use Rattle.roster_model.specs.Rules.Recovery.{KeepsRecovery}
use Rattle.roster_legal.proofs.rules.recovery.keeps_recovery.Goals as goal

pub returns : goal.returns
returns c = λ set is.
    subst (λ (list : List Duty). IsTrue c.recovery_ok.result ↔ KeepsRecovery (home_of c.args.problem.now c.args.k).days list) is
    (subst (λ (days : Days). IsTrue c.recovery_ok.result ↔ KeepsRecovery days c.args.list.now) c.days_of.ensures c.recovery_ok.ensures)
