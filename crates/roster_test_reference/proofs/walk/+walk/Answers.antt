use Rattle.std.proofs.Common.{◌≡◌, ℕ, ◌+◌, ◌<◌, ◌≤◌, Some, length, refl, sym, ap, ◌∙◌, subst, arith}
use Rattle.std.proofs.lemmas.Bool.{both_ways}
use Rattle.std.proofs.lemmas.List.{length-map}
use Rattle.std.specs.Prelude.{All}
use Rattle.roster_model.specs.Places.{open_number}
use Rattle.roster_lines_table.specs.Entries.{sets_of}
use Rattle.roster_lines_table.specs.Person.{lines_at}
use Rattle.roster_model.specs.Settled.{Anywhere, Settles}
use Rattle.roster_problem.specs.Placing.{IsPut}
use Rattle.roster_problem.proofs.PutLemmas.{Throughout, put_back}
use Rattle.roster_test_reference.specs.Walk.{AgreeBefore, IsWalkedTo}
use Rattle.roster_test_reference.proofs.GivenLine.{given_again, walked_on}
use Rattle.roster_lines_table.proofs.TableLemmas.{all_lines_in_table}
use Rattle.roster_test_reference.proofs.WalkLemmas.{Tried, line_in_table, settled_at_end, tried_all, tried_given, tried_left, tried_none}
use Rattle.roster_test_reference.proofs.walk.+walk.Goals as goal
use Rattle.roster_test_reference.proofs.walk.+walk.Goals.{then-has_throughout, else-has_throughout}

is_below : (k n m : ℕ) → k ≤ n → m ≡ n → (k ≡ m → ⊥) → k < n
is_below k n m most same other = omega (arith, other)

pub returns-then-k-persons-clause-settled : goal.returns-then-k-persons-clause-settled
returns-then-k-persons-clause-settled t c =
    let problem = c.args.problem.now in
    let places = c.args.places.now in
    let here : length problem.persons ≡ c.args.k =
    sym (c.if-k-persons.true ∙ ap length c.persons.ensures.value) in
    let P : ℕ → Type 0 = λ n. IsWalkedTo problem n places → Settles problem (λ others. AgreeBefore n places others) Anywhere (Some c.args.best.now) c.take_earlier.new.best in
    subst P here (λ walked. settled_at_end problem places c.args.best.now c.take_earlier.new.best walked c.take_earlier.ensures) c.requires.walked

pub loop-i-init : goal.loop-i-init
loop-i-init t c = record {
  person =
      is_below c.args.k (length c.args.problem.now.persons) (length c.persons.result.now) c.requires.person
      (ap length c.persons.ensures.value) c.if-k-persons.false;
  same = refl;
  settled = tried_none c.args.problem.now (sets_of (lines_at c.args.table.now c.args.k)) c.args.k c.args.places.now c.args.best.now c.requires.held;
}

pub has_throughout-requires : goal.has_throughout-requires
has_throughout-requires t c =
    let problem = c.args.problem.now in
    let line = line_in_table problem c.args.table.now c.args.k c.loop-i.i c.set-set.result c.requires.table c.loop-i.invariant.person c.set-set.ensures in
    let long : length problem.pairings ≡ length c.loop-i.places =
    sym (c.loop-i.auto.places ∙ c.requires.walked.covers) in
    subst (λ n. All (λ p. p < n) c.set-set.result) long line.places

pub walk-requires : goal.walk-requires
walk-requires t c =
    let person = c.loop-i.invariant.person in
    let problem = c.args.problem.now in
    let line = line_in_table problem c.args.table.now c.args.k c.loop-i.i c.set-set.result c.requires.table c.loop-i.invariant.person c.set-set.ensures in
    let gives = given_again problem c.args.k c.open_number-nobody.result c.set-set.result c.args.places.now c.loop-i.places c.put.new.places c.loop-i.invariant.same c.open_number-nobody.ensures.value c.loop-i.invariant.person c.requires.walked line (c.has_throughout.ensures.0 c.if-has_throughout.true) c.put.ensures in
    (omega (arith, person), (omega (arith, person), (c.requires.table, (walked_on problem c.args.k c.set-set.result c.args.places.now c.put.new.places gives, c.loop-i.invariant.settled.held))))

pub loop-i-preserved : goal.loop-i-preserved
loop-i-preserved t c =
    let problem = c.args.problem.now in
    let k = c.args.k in
    let set = c.set-set.result in
    let places = c.args.places.now in
    let nobody = c.open_number-nobody.result in
    let lines = sets_of (lines_at c.args.table.now k) in
    let line = line_in_table problem c.args.table.now k c.loop-i.i set c.requires.table c.loop-i.invariant.person c.set-set.ensures in
    let region = Tried lines (c.loop-i.i + 1) k places in
    elim c.if-has_throughout.branch [
      | then-has_throughout w ↦
          let free = c.has_throughout.ensures.0 w.if-has_throughout.true in
          let given = w.put.new.places in
          let gives = given_again problem k nobody set places c.loop-i.places given c.loop-i.invariant.same c.open_number-nobody.ensures.value c.loop-i.invariant.person c.requires.walked line free w.put.ensures in
          let back = subst (λ xs. IsPut nobody set xs w.put-then-has_throughout.new.places) w.walk.ensures.same w.put-then-has_throughout.ensures in
          record {
            person = c.loop-i.invariant.person;
            same = w.places-is ∙ put_back k nobody set c.loop-i.places given w.put-then-has_throughout.new.places free w.put.ensures back ∙ c.loop-i.invariant.same;
            settled = subst (Settles problem region Anywhere (Some c.args.best.now)) (sym w.best-is)
                (tried_given problem lines c.loop-i.i k set places given c.args.best.now c.loop-i.best w.walk.new.best c.set-set.ensures gives c.loop-i.invariant.settled w.walk.ensures.settled);
          }
      | else-has_throughout w ↦
          let meets : Throughout (open_number problem) set places → ⊥ = λ free.
          both_ways _ w.if-has_throughout.false (c.has_throughout.ensures.1 (subst (λ n. Throughout n set c.loop-i.places) (sym c.open_number-nobody.ensures.value) (subst (Throughout (open_number problem) set) (sym c.loop-i.invariant.same) free))) in
          record {
            person = c.loop-i.invariant.person;
            same = w.places-is ∙ c.loop-i.invariant.same;
            settled = subst (Settles problem region Anywhere (Some c.args.best.now)) (sym w.best-is)
                (tried_left problem lines c.loop-i.i k set places c.args.best.now c.loop-i.best c.set-set.ensures c.requires.walked line c.loop-i.invariant.person meets c.loop-i.invariant.settled);
          }
    ]

pub returns-clause-settled : goal.returns-clause-settled
returns-clause-settled t c =
    let problem = c.args.problem.now in
    let lines = sets_of (lines_at c.args.table.now c.args.k) in
    let all : c.loop-i.i ≡ length lines = omega (arith, c.loop-i-test.false, c.loop-i.auto.i-end, c.width-i-end.ensures, length-map (lines_at c.args.table.now c.args.k) (λ entry. entry.set)) in
    tried_all problem lines c.args.k c.args.places.now c.args.best.now c.loop-i.best (all_lines_in_table problem c.args.table.now c.args.k c.requires.table c.loop-i.invariant.person) c.loop-i.invariant.person
    (subst (λ n. Settles problem (Tried lines n c.args.k c.args.places.now) Anywhere (Some c.args.best.now) c.loop-i.best) all c.loop-i.invariant.settled)
