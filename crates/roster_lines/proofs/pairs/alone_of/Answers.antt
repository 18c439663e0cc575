use Rattle.std.proofs.Common.{◌≡◌, ℕ, ◌+◌, [], ◌∷◌, sym, ap, subst, ◌∙◌, arith}
use Rattle.std.proofs.lemmas.Bool.{both_ways}
use Rattle.roster_model.specs.Rules.{is_among, IsLegal}
use Rattle.roster_values.specs.Set.{with_place}
use Rattle.roster_lines.proofs.Judged.{HasBelow, HasBelow-with, HasBelow-without, illegal_as, legal_as}
use Rattle.roster_lines.proofs.pairs.alone_of.Goals.{then-branch+in_ok-alone, else-branch}
use Rattle.roster_lines.proofs.pairs.alone_of.Goals as goal

pub loop-p-preserved : goal.loop-p-preserved
loop-p-preserved c =
    let Legal : ℕ → Type 0 = λ q. IsLegal c.args.problem.now c.args.k (q ∷ []) in
    let p : ℕ = c.loop-p.p in
    let single : c.in_ok-single.single ≡ p ∷ [] =
    c.in_ok-single.ensures.value ∙ ap (with_place p) c.empty.ensures in
    let judge = c.loop-p.invariant.judge in
    let said = c.in_ok-is_legal.ensures.value in
    record {
      judge = c.in_ok-is_legal.ensures.same ∙ judge;
      alone = elim c.if-branch.branch [
        | then-branch+in_ok-alone w ↦
            HasBelow-with Legal c.loop-p.alone c.if-branch.alone p p c.loop-p.invariant.alone (omega arith)
            (λ q l before. absurd (omega arith))
            (legal_as _ c.args.problem.now c.args.k _ (p ∷ []) judge single (said.0 w.if-branch.true))
            (λ q. ap (λ s. is_among s q) w.alone-is ∙ w.in_ok-alone.ensures.members q)
        | else-branch w ↦
            subst (HasBelow Legal (p + 1)) (sym w.alone-is)
            (HasBelow-without Legal c.loop-p.alone p p c.loop-p.invariant.alone (omega arith) (λ q l before. absurd (omega arith))
            (illegal_as _ c.args.problem.now c.args.k _ (p ∷ []) judge single (λ is. both_ways _ w.if-branch.false (said.1 is))))
      ];
    }
