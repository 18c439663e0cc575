use Rattle.std.proofs.Common.{◌≡◌, ◌<◌, ◌≤◌, length, List, Some, get_or, sym, ◌∙◌, subst, arith, rules}
use Rattle.std.specs.Prelude.{All}
use Rattle.roster_model.specs.declared.limits.TheConstants.{MOST_DUTIES, MOST_LEAVES}
use Rattle.roster_model.specs.Faults.{IsFaultless}
use Rattle.roster_model.specs.Problem.{Problem, in_order}
use Rattle.roster_model.specs.records.Duty.{Duty}
use Rattle.roster_model.specs.records.Leave.{Leave, is_leave_of}
use Rattle.roster_problem.specs.Duties.{AreFlown, AreTimed, IsInOrder, IsIndex, is_at, is_of_pairing, is_of_person}
use Rattle.roster_problem.specs.Sound.{IsHolder, IsSound}
use Rattle.roster_problem.specs.Sound.{tables_of}
use Rattle.roster_problem.proofs.Indexes.{pairing_there, person_there, leave_there}
use Rattle.roster_problem.proofs.OrderLaw.{AllPairs-in_order}
use Rattle.roster_problem.proofs.problem.Problem.new.Goals as goal

pub by_place-requires-clause-bound : goal.by_place-requires-clause-bound
by_place-requires-clause-bound c =
    let few =
    subst (λ (duties : List Duty). length duties ≤ MOST_DUTIES)
    (sym (c.deref.ensures.value ∙ c.in_ok-duties.ensures)) c.requires.sound.duties in
    omega arith

pub by_place-requires-2-clause-bound : goal.by_place-requires-2-clause-bound
by_place-requires-2-clause-bound c =
    let few =
    subst (λ (duties : List Duty). length duties ≤ MOST_DUTIES)
    (sym (c.deref-2.ensures.value ∙ c.in_ok-duties.ensures)) c.requires.sound.duties in
    omega arith

pub by_place-requires-clause-there : goal.by_place-requires-clause-there
by_place-requires-clause-there c k d inside p h =
    let holders = subst (All (λ duty. IsHolder (length c.args.tables.pairings.items) (length c.args.tables.persons.items) duty.holder)) (sym (c.deref.ensures.value ∙ c.in_ok-duties.ensures)) c.requires.sound.holders in
    let duty : Duty = get_or c.deref.result.now k d in
    let told : is_of_pairing p duty ≡ is_at p (Some p) = search rules in
    let below =
    pairing_there (length c.args.tables.pairings.items) (length c.args.tables.persons.items) p duty
    (holders k d inside) told in
    omega arith

pub by_place-requires-2-clause-there : goal.by_place-requires-2-clause-there
by_place-requires-2-clause-there c k d inside p h =
    let holders = subst (All (λ duty. IsHolder (length c.args.tables.pairings.items) (length c.args.tables.persons.items) duty.holder)) (sym (c.deref-2.ensures.value ∙ c.in_ok-duties.ensures)) c.requires.sound.holders in
    let duty : Duty = get_or c.deref-2.result.now k d in
    let told : is_of_person p duty ≡ is_at p (Some p) = search rules in
    let below =
    person_there (length c.args.tables.pairings.items) (length c.args.tables.persons.items) p duty
    (holders k d inside) told in
    omega arith

timed : (c : goal.In_ok-on_leave) → AreTimed c.deref.result.now
timed c k d inside =
    let given = c.in_ok-by_pairing.ensures.given k d inside in
    let h = given.1 in
    search rules

flown : (c : goal.In_ok-on_leave) → AreFlown c.deref.result.now
flown c k d inside =
    let given = c.in_ok-by_pairing.ensures.given k d inside in
    let h = given.1 in
    search rules

of_pairings : (c : goal.In_ok-on_leave) → IsIndex is_of_pairing (length c.args.tables.pairings.items) c.deref.result.now c.in_ok-by_pairing.by_pairing
of_pairings c =
    let all : c.len.result ≡ length c.args.tables.pairings.items = omega arith in
    subst (λ n. IsIndex is_of_pairing n c.deref.result.now c.in_ok-by_pairing.by_pairing) all
    (c.in_ok-by_pairing.ensures.index is_of_pairing (λ p duty place h. search rules))

of_persons : (c : goal.In_ok-on_leave) → IsIndex is_of_person (length c.args.tables.persons.items) c.deref-2.result.now c.in_ok-by_person.by_person
of_persons c =
    let all : c.len-2.result ≡ length c.args.tables.persons.items = omega arith in
    subst (λ n. IsIndex is_of_person n c.deref-2.result.now c.in_ok-by_person.by_person) all
    (c.in_ok-by_person.ensures.index is_of_person (λ k duty place h. search rules))

pub by_place-requires-3-clause-bound : goal.by_place-requires-3-clause-bound
by_place-requires-3-clause-bound c =
    let few =
    subst (λ (leaves : List Leave). length leaves ≤ MOST_LEAVES)
    (sym c.deref-3.ensures.value) c.requires.sound.leaves in
    omega arith

pub by_place-requires-3-clause-there : goal.by_place-requires-3-clause-there
by_place-requires-3-clause-there c k d inside p h =
    let absences =
    subst (All (λ leave. leave.person < length c.args.tables.persons.items))
    (sym c.deref-3.ensures.value) c.requires.sound.absences in
    let leave : Leave = get_or c.deref-3.result.now k d in
    let told : is_leave_of p leave ≡ is_at p (Some p) = search rules in
    let below = leave_there (length c.args.tables.persons.items) p leave (absences k d inside) told in
    omega arith

on_leave : (c : goal.In_ok-on_leave)
    → IsIndex is_leave_of (length c.args.tables.persons.items) c.deref-3.result.now c.in_ok-on_leave.on_leave
on_leave c =
    let all : c.len-3.result ≡ length c.args.tables.persons.items = omega arith in
    subst (λ n. IsIndex is_leave_of n c.deref-3.result.now c.in_ok-on_leave.on_leave) all
    (c.in_ok-on_leave.ensures.index is_leave_of (λ k leave place h. search rules))

pub invariant_of-result : goal.invariant_of-result
invariant_of-result c =
    let sorted : c.in_ok-duties.duties.items ≡ in_order c.args.tables.duties.items = c.in_ok-duties.ensures in
    let tables : List Duty → Problem = λ duties. record (tables_of c.args.tables) { duties = duties } in
    record {
      sound = subst (λ ds. IsSound (tables ds)) (sym sorted) c.requires.sound;
      faultless = subst (λ ds. IsFaultless (tables ds)) (sym sorted) c.requires.faultless;
      ordered = subst IsInOrder (sym sorted) (AllPairs-in_order c.args.tables.duties.items);
      timed = subst AreTimed c.deref.ensures.value (timed c);
      flown = subst AreFlown c.deref.ensures.value (flown c);
      of_pairings = subst (λ duties. IsIndex is_of_pairing (length c.args.tables.pairings.items) duties c.in_ok-by_pairing.by_pairing) c.deref.ensures.value (of_pairings c);
      of_persons = subst (λ duties. IsIndex is_of_person (length c.args.tables.persons.items) duties c.in_ok-by_person.by_person) c.deref-2.ensures.value (of_persons c);
      leaves = subst (λ leaves. IsIndex is_leave_of (length c.args.tables.persons.items) leaves c.in_ok-on_leave.on_leave) c.deref-3.ensures.value (on_leave c);
    }
