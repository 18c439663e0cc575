use Rattle.std.proofs.Common.{◌<◌, ◌++◌, ◌∷◌, [], length, ap, subst, sym}
use Rattle.std.specs.Prelude.{◌↔◌, All, IsTrue}
use Rattle.std.proofs.lemmas.Bool.{both_ways}
use Rattle.roster_model.specs.Problem.{home_of}
use Rattle.roster_model.specs.Rules.{RecoveryRule}
use Rattle.roster_model.specs.Rules.Recovery.{KeepsRecovery}
use Rattle.roster_problem.specs.Duties.{IsInOrder, picked}
use Rattle.roster_legal.specs.Stepping.{IsPlaced, Loaded, Stepped}
use Rattle.roster_legal.proofs.Parts.{list_ordered}
use Rattle.roster_legal.proofs.Stepped.{duties-picked, duties-within, known_of, next-holds}
use Rattle.roster_legal.proofs.stepping.JudgedSet.keeps_recovery_with.Goals as goal

pub keep_recovery-requires-clause-within : goal.keep_recovery-requires-clause-within
keep_recovery-requires-clause-within c =
    let judged = c.args.self.now in
    let same = ap (λ (j : Stepped). j.loads) c.self.view_is in
    subst (λ (l : Loaded). All (λ i. i < length l.problem.duties) c.args.positions.now) (sym same) (duties-within judged.loads.problem judged.loads.person (judged.set ++ c.args.p ∷ []) c.args.positions.now c.requires.positions)

pub keep_recovery-requires-clause-ordered : goal.keep_recovery-requires-clause-ordered
keep_recovery-requires-clause-ordered c =
    let judged = c.args.self.now in
    let same = ap (λ (j : Stepped). j.loads) c.self.view_is in
    let placed = subst IsPlaced same c.problem.ensures.placed in
    let list =
    duties-picked judged.loads.problem judged.loads.person
    (judged.set ++ c.args.p ∷ []) c.args.positions.now c.requires.positions in
    subst (λ (l : Loaded). IsInOrder (picked l.problem.duties c.args.positions.now)) (sym same)
    (subst IsInOrder (sym list) (list_ordered judged.loads.problem judged.loads.person (judged.set ++ c.args.p ∷ []) placed.ordered))

pub returns-else-self-lt2-clause-yes : goal.returns-else-self-lt2-clause-yes
returns-else-self-lt2-clause-yes c = λ h many.
    let judged = c.args.self.now in
    let same = ap (λ (j : Stepped). j.loads) c.self.view_is in
    let list =
    duties-picked judged.loads.problem judged.loads.person
    (judged.set ++ c.args.p ∷ []) c.args.positions.now c.requires.positions in
    let is = subst (λ (l : Loaded). IsTrue c.keep_recovery.result ↔ KeepsRecovery (home_of l.problem l.person).days (picked l.problem.duties c.args.positions.now)) same c.keep_recovery.ensures in
    subst (KeepsRecovery (home_of judged.loads.problem judged.loads.person).days) list (is.0 h)

pub returns-else-self-lt2-clause-no : goal.returns-else-self-lt2-clause-no
returns-else-self-lt2-clause-no c = λ fails legal.
    let judged = c.args.self.now in
    let same = ap (λ (j : Stepped). j.loads) c.self.view_is in
    let placed = subst IsPlaced same c.problem.ensures.placed in
    let known = known_of c.self.view_is c.self.invariant in
    let list =
    duties-picked judged.loads.problem judged.loads.person
    (judged.set ++ c.args.p ∷ []) c.args.positions.now c.requires.positions in
    let is = subst (λ (l : Loaded). IsTrue c.keep_recovery.result ↔ KeepsRecovery (home_of l.problem l.person).days (picked l.problem.duties c.args.positions.now)) same c.keep_recovery.ensures in
    let keeps = next-holds judged c.args.p placed.ordered placed.timed known.legal c.requires.next judged.set legal RecoveryRule in
    both_ways _ fails
    (is.1 (subst (KeepsRecovery (home_of judged.loads.problem judged.loads.person).days) (sym list) keeps))
