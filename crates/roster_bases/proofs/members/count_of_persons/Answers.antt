use Rattle.std.proofs.Common.{◌≤◌, ◌+◌, ℕ, Bool, eqb, length, ap, sym, ◌∙◌, arith}
use Rattle.std.proofs.lemmas.List.{length_push}
use Rattle.roster_bases.specs.Bases.{base_of_person}
use Rattle.roster_bases.proofs.BaseLemmas.{passing, passing_few, passing-next, passing-same}
use Rattle.roster_bases.proofs.members.count_of_persons.Goals as goal
use Rattle.roster_bases.proofs.members.count_of_persons.Goals.{then-is_person_of, else-is_person_of}

pub overflow_add-count : goal.overflow_add-count
overflow_add-count c =
    let test : ℕ → Bool = λ i. eqb (base_of_person c.args.problem.now i) c.args.base in
    let few = passing_few test c.loop-k.k in
    let most = c.persons-k-end.ensures.sound.persons in
    omega (arith, few, most, c.loop-k.invariant.own, c.loop-k-test.true, ap length c.persons-k-end.ensures.value)

pub loop-k-preserved : goal.loop-k-preserved
loop-k-preserved c =
    let test : ℕ → Bool = λ i. eqb (base_of_person c.args.problem.now i) c.args.base in
    let k = c.loop-k.k in
    let inv = c.loop-k.invariant in
    let few : k + 1 ≤ length c.args.problem.now.persons =
    omega (arith, c.loop-k-test.true, ap length c.persons-k-end.ensures.value) in
    elim c.if-is_person_of.branch [
      | then-is_person_of w ↦ record {
        few = few;
        own =
            w.count-is ∙ ap (λ n. n + 1) inv.own
            ∙ sym (ap length (passing-next test k (sym w.if-is_person_of.ensures)) ∙ length_push (passing test k) k);
      }
      | else-is_person_of w ↦ record {
        few = few;
        own = w.count-is ∙ inv.own ∙ sym (ap length (passing-same test k (sym w.if-is_person_of.ensures)));
      }
    ]
