use Rattle.std.proofs.Common.{ℕ, ◌+◌, ◌≤◌, ◌∷◌, [], ◌++◌, Bool, eqb, length, ap, sym, ◌∙◌, arith}
use Rattle.roster_bases.specs.Bases.{base_of_person}
use Rattle.roster_bases.proofs.BaseLemmas.{passing-next, passing-same}
use Rattle.roster_bases.proofs.members.persons_of.Goals as goal
use Rattle.roster_bases.proofs.members.persons_of.Goals.{then-is_person_of+in_ok-push, else-is_person_of}

pub loop-k-preserved : goal.loop-k-preserved
loop-k-preserved c =
    let test : ℕ → Bool = λ i. eqb (base_of_person c.args.problem.now i) c.args.base in
    let k = c.loop-k.k in
    let inv = c.loop-k.invariant in
    let few : k + 1 ≤ length c.args.problem.now.persons =
    omega (arith, c.loop-k-test.true, ap length c.persons-k-end.ensures.value) in
    elim c.if-is_person_of.branch [
      | then-is_person_of+in_ok-push w ↦ record {
        few = few;
        own =
            ap (λ v. v.items) w.persons-is ∙ w.in_ok-push.ensures.items ∙ ap (λ xs. xs ++ k ∷ []) inv.own
            ∙ sym (passing-next test k (sym w.if-is_person_of.ensures));
      }
      | else-is_person_of w ↦ record {
        few = few;
        own =
            ap (λ v. v.items) w.persons-is ∙ inv.own ∙ sym (passing-same test k (sym w.if-is_person_of.ensures));
      }
    ]
