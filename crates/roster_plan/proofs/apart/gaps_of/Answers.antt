use Rattle.std.proofs.Common.{ℤ, sym, subst, arith, w64, FitsSigned, rules}
use Rattle.std.proofs.lemmas.Int.{to_z-of_z}
use Rattle.std.proofs.lemmas.List.Elements.{All-push}
use Rattle.roster_bases.specs.Bases.{only}
use Rattle.roster_bases.specs.Homes.{IsHomeBound}
use Rattle.roster_plan.specs.Bases.{AreGaps, IsGap}
use Rattle.roster_plan.proofs.PartLemmas.{same_home_bound}
use Rattle.roster_plan.proofs.apart.gaps_of.Goals as goal
use Rattle.roster_plan.proofs.apart.gaps_of.Goals.{then-is_open+in_ok-priced+in_ok-push, else-is_open}

pub loop-base-preserved : goal.loop-base-preserved
loop-base-preserved g c =
    let problem = c.args.pricing.now in
    elim c.if-is_open.branch [
      | then-is_open+in_ok-priced+in_ok-push w ↦
          let priced = w.in_ok-priced.priced in
          let bound : ℤ = w.bound-bound.result in
          let fits : FitsSigned w64 bound = search rules in
          subst (λ vec. AreGaps problem vec.items) (sym w.gaps-is)
          (subst (AreGaps problem) (sym w.in_ok-push.ensures.items)
          (All-push (IsGap problem) c.loop-base.gaps.items _ c.loop-base.invariant
          (record {
            base = omega arith;
            same = w.in_ok-priced.ensures.problem;
            of = w.in_ok-priced.ensures.base;
            found = subst (IsHomeBound problem (only c.loop-base.base)) (sym (to_z-of_z w64 bound fits))
                (same_home_bound priced.problem problem priced.base c.loop-base.base bound
                w.in_ok-priced.ensures.problem w.in_ok-priced.ensures.base w.bound-bound.ensures.bound);
          })))
      | else-is_open w ↦ subst (λ vec. AreGaps problem vec.items) (sym w.gaps-is) c.loop-base.invariant
    ]
