use Rattle.std.proofs.Common.{◌+◌, ◌∙◌, Some, None, get_or, refl, sym, ap, subst, arith}
use Rattle.std.proofs.lemmas.Bool.{both_ways}
use Rattle.roster_model.proofs.RuleLemmas.{HoldBelow, below-next, below-all, fails-first, limits-ranked}
use Rattle.roster_model.specs.Rules.{limits_by_rank, rank_of_limit, IsFirstFailing}
use Rattle.roster_values.specs.declared.rule.Limit.TheVariants.{Duty7}
use Rattle.roster_values.specs.declared.rule.TheConstants.Limit.{ALL}
use Rattle.roster_values.specs.View.{limit_of}
use Rattle.roster_cumulative.specs.Limited.{IsKept, Limited}
use Rattle.roster_cumulative.proofs.limits.cumulative_broken.Goals as goal

pub loop-limit-preserved : goal.loop-limit-preserved
loop-limit-preserved c =
    let l = c.loop-limit.limits in
    record {
      same = c.holds.ensures.same ∙ c.loop-limit.invariant.same;
      kept =
          subst (λ l. HoldBelow rank_of_limit (IsKept l) (c.loop-limit.limit-index + 1))
          (sym c.holds.ensures.same)
          (below-next rank_of_limit limits_by_rank limits-ranked (IsKept l) limit_of ALL c.loop-limit.limit-index Duty7 refl c.loop-limit-test.true c.loop-limit.invariant.kept (c.holds.ensures.value.0 c.if-not-holds.false));
    }

pub returns-then-not-holds : goal.returns-then-not-holds
returns-then-not-holds c =
    let l = c.loop-limit.limits in
    let i = c.loop-limit.limit-index in
    record {
      limit = Some (limit_of (get_or ALL i Duty7));
      rule = ap Some c.rule.ensures;
      first =
          subst
          (λ (l : Limited). IsFirstFailing rank_of_limit (IsKept l) (Some (limit_of (get_or ALL i Duty7))))
          (c.loop-limit.invariant.same ∙ c.new-limits.ensures)
          (fails-first rank_of_limit limits_by_rank limits-ranked (IsKept l) limit_of ALL i Duty7 refl c.loop-limit-test.true c.loop-limit.invariant.kept
          (λ holds. both_ways _ c.if-not-holds.true (c.holds.ensures.value.1 holds)));
    }

pub returns : goal.returns
returns c =
    let l = c.loop-limit.limits in
    record {
      limit = None;
      rule = refl;
      first =
          subst (λ (l : Limited). IsFirstFailing rank_of_limit (IsKept l) None)
          (c.loop-limit.invariant.same ∙ c.new-limits.ensures)
          (below-all rank_of_limit limits_by_rank limits-ranked (IsKept l) (λ limit before. c.loop-limit.invariant.kept limit (omega arith)));
    }
