use Rattle.std.proofs.Common.{List, subst}
use Rattle.std.specs.Prelude.{◌↔◌, IsTrue}
use Rattle.roster_model.specs.Calendar.{Days}
use Rattle.roster_model.specs.Problem.{home_of}
use Rattle.roster_model.specs.records.Duty.{Duty}
use Rattle.roster_model.specs.Rules.DaysOff.{KeepsDaysOff}
use Rattle.roster_legal.proofs.rules.days_off.keeps_days_off.Goals as goal

pub returns : goal.returns
returns c = λ set is.
    subst (λ (list : List Duty). IsTrue c.days_ok.result ↔ KeepsDaysOff (home_of c.args.problem.now c.args.k).days list) is
    (subst (λ (days : Days). IsTrue c.days_ok.result ↔ KeepsDaysOff days c.args.list.now) c.days_of.ensures c.days_ok.ensures)
