use Rattle.std.proofs.Common.{List, subst}
use Rattle.std.specs.Prelude.{◌↔◌, IsTrue}
use Rattle.roster_model.specs.Problem.{leaves_of}
use Rattle.roster_model.specs.records.Duty.{Duty}
use Rattle.roster_model.specs.Rules.{Duty7, Duty14, Duty28, Flight28, FlightYear, Flight12}
use Rattle.roster_model.specs.Rules.Leave.{KeepsLeave}
use Rattle.roster_legal.proofs.FirstBroken.{holds-limit}
use Rattle.roster_legal.proofs.rules.holds.Goals as goal

pub returns-in-Leave-clause-value : goal.returns-in-Leave-clause-value
returns-in-Leave-clause-value c =
    rw c.in-Leave.is (subst (λ (list : List Duty). IsTrue c.keeps_leave.result ↔ KeepsLeave (leaves_of c.args.problem.now c.args.k) list) c.requires.list c.keeps_leave.ensures)

pub returns-in-Duty7-clause-value : goal.returns-in-Duty7-clause-value
returns-in-Duty7-clause-value c =
    rw c.in-Duty7.is (holds-limit c.args.problem.now c.args.k c.args.set.now c.args.limits.now Duty7 c.holds.result c.requires.limits c.holds.ensures.value)

pub returns-in-Duty14-clause-value : goal.returns-in-Duty14-clause-value
returns-in-Duty14-clause-value c =
    rw c.in-Duty14.is (holds-limit c.args.problem.now c.args.k c.args.set.now c.args.limits.now Duty14 c.holds-in-Duty14.result c.requires.limits c.holds-in-Duty14.ensures.value)

pub returns-in-Duty28-clause-value : goal.returns-in-Duty28-clause-value
returns-in-Duty28-clause-value c =
    rw c.in-Duty28.is (holds-limit c.args.problem.now c.args.k c.args.set.now c.args.limits.now Duty28 c.holds-in-Duty28.result c.requires.limits c.holds-in-Duty28.ensures.value)

pub returns-in-Flight28-clause-value : goal.returns-in-Flight28-clause-value
returns-in-Flight28-clause-value c =
    rw c.in-Flight28.is (holds-limit c.args.problem.now c.args.k c.args.set.now c.args.limits.now Flight28 c.holds-in-Flight28.result c.requires.limits c.holds-in-Flight28.ensures.value)

pub returns-in-FlightYear-clause-value : goal.returns-in-FlightYear-clause-value
returns-in-FlightYear-clause-value c =
    rw c.in-FlightYear.is (holds-limit c.args.problem.now c.args.k c.args.set.now c.args.limits.now FlightYear c.holds-in-FlightYear.result c.requires.limits c.holds-in-FlightYear.ensures.value)

pub returns-in-Flight12-clause-value : goal.returns-in-Flight12-clause-value
returns-in-Flight12-clause-value c =
    rw c.in-Flight12.is (holds-limit c.args.problem.now c.args.k c.args.set.now c.args.limits.now Flight12 c.holds-in-Flight12.result c.requires.limits c.holds-in-Flight12.ensures.value)
