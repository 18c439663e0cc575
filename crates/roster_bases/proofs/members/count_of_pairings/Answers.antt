use Rattle.std.proofs.Common.{◌≤◌, ◌+◌, ℕ, Bool, eqb, length, ap, sym, ◌∙◌, arith}
use Rattle.std.proofs.lemmas.List.{length_push}
use Rattle.roster_bases.specs.Bases.{base_of_pairing}
use Rattle.roster_bases.proofs.BaseLemmas.{passing, passing_few, passing-next, passing-same}
use Rattle.roster_bases.proofs.members.count_of_pairings.Goals as goal
use Rattle.roster_bases.proofs.members.count_of_pairings.Goals.{then-is_pairing_of, else-is_pairing_of}

pub overflow_add-count : goal.overflow_add-count
overflow_add-count c =
    let test : ℕ → Bool = λ i. eqb (base_of_pairing c.args.problem.now i) c.args.base in
    let few = passing_few test c.loop-p.p in
    let most = c.pairings-p-end.ensures.sound.pairings in
    omega (arith, few, most, c.loop-p.invariant.own, c.loop-p-test.true, ap length c.pairings-p-end.ensures.value)

pub loop-p-preserved : goal.loop-p-preserved
loop-p-preserved c =
    let test : ℕ → Bool = λ i. eqb (base_of_pairing c.args.problem.now i) c.args.base in
    let p = c.loop-p.p in
    let inv = c.loop-p.invariant in
    let few : p + 1 ≤ length c.args.problem.now.pairings =
    omega (arith, c.loop-p-test.true, ap length c.pairings-p-end.ensures.value) in
    elim c.if-is_pairing_of.branch [
      | then-is_pairing_of w ↦ record {
        few = few;
        own =
            w.count-is ∙ ap (λ n. n + 1) inv.own
            ∙ sym (ap length (passing-next test p (sym w.if-is_pairing_of.ensures)) ∙ length_push (passing test p) p);
      }
      | else-is_pairing_of w ↦ record {
        few = few;
        own = w.count-is ∙ inv.own ∙ sym (ap length (passing-same test p (sym w.if-is_pairing_of.ensures)));
      }
    ]
