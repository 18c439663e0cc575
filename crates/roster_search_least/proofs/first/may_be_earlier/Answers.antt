use Rattle.std.proofs.Common.{◌≡◌, ◌<◌, ◌∙◌, arith, inl, inr, subst}
use Rattle.std.proofs.lemmas.Bool.{cases_lt}
use Rattle.roster_search_regions.specs.Regions.{HasNot, IsWhollyIn}
use Rattle.roster_search_least.proofs.first.may_be_earlier.Goals as goal

pub loop-k-preserved : goal.loop-k-preserved
loop-k-preserved c = record {
  none = λ j less.
      elim (cases_lt j c.loop-k.k) [
        | inl earlier ↦ c.loop-k.invariant.none j earlier
        | inr on ↦
            let same : c.loop-k.k ≡ j = omega arith in
            subst (λ n. IsWhollyIn c.args.problem.now c.args.region.now (HasNot n c.args.p))
            (c.from.ensures ∙ same) (c.may_have.ensures c.if-may_have.false)
      ];
}

pub returns : goal.returns
returns c is places here earlier =
    let below : earlier.0 < c.args.number = earlier.1 in
    let less : earlier.0 < c.loop-k.k = omega (arith, below, c.loop-k-test.false) in
    c.loop-k.invariant.none earlier.0 less places here earlier.2
