use Rattle.std.proofs.Common.{◌++◌, ◌∷◌, [], ap, subst}
use Rattle.std.specs.Prelude.{IsTrue}
use Rattle.std.proofs.lemmas.Bool.{both_ways}
use Rattle.roster_model.specs.Rules.{duty_list, DaysOffRule}
use Rattle.roster_legal.specs.Stepping.{IsPlaced, Stepped}
use Rattle.roster_legal.proofs.BusyDays.{off-at_home}
use Rattle.roster_legal.proofs.Stepped.{known_of, next-holds}
use Rattle.roster_legal.proofs.stepping.JudgedSet.has_days_off_with.Goals as goal

pub returns-else-self-lt2-clause-yes : goal.returns-else-self-lt2-clause-yes
returns-else-self-lt2-clause-yes c = λ h many.
    let judged = c.args.self.now in
    let same = ap (λ (j : Stepped). j.loads) c.self.view_is in
    let is = off-at_home c.self.inside.loads.now judged.loads c.problem-problem.result.now c.person.result c.days_of.result.now c.args.busy (IsTrue c.has_days_off.result) same c.problem-problem.ensures.value c.person.ensures c.days_of.ensures c.has_days_off.ensures in
    (is (duty_list judged.loads.problem judged.loads.person (judged.set ++ c.args.p ∷ [])) c.requires.busy).0 h

pub returns-else-self-lt2-clause-no : goal.returns-else-self-lt2-clause-no
returns-else-self-lt2-clause-no c = λ fails legal.
    let judged = c.args.self.now in
    let same = ap (λ (j : Stepped). j.loads) c.self.view_is in
    let placed = subst IsPlaced same c.problem-problem.ensures.placed in
    let known = known_of c.self.view_is c.self.invariant in
    let is = off-at_home c.self.inside.loads.now judged.loads c.problem-problem.result.now c.person.result c.days_of.result.now c.args.busy (IsTrue c.has_days_off.result) same c.problem-problem.ensures.value c.person.ensures c.days_of.ensures c.has_days_off.ensures in
    let keeps = next-holds judged c.args.p placed.ordered placed.timed known.legal c.requires.next judged.set legal DaysOffRule in
    both_ways _ fails ((is (duty_list judged.loads.problem judged.loads.person (judged.set ++ c.args.p ∷ [])) c.requires.busy).1 keeps)
