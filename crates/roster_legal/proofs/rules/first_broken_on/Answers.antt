use Rattle.std.proofs.Common.{refl, sym, subst, arith}
use Rattle.std.proofs.lemmas.Bool.{both_ways}
use Rattle.roster_model.proofs.RuleLemmas.{below-next, below-all, fails-first, rules-ranked}
use Rattle.roster_model.specs.Rules.{by_rank, rank_of, Holds}
use Rattle.roster_values.specs.declared.rule.Rule.TheVariants.{Base}
use Rattle.roster_values.specs.declared.rule.TheConstants.Rule.{ALL}
use Rattle.roster_values.specs.View.{rule_of}
use Rattle.roster_legal.specs.Looks.{LookAt}
use Rattle.roster_legal.proofs.rules.first_broken_on.Goals as goal

pub loop-rule-preserved : goal.loop-rule-preserved
loop-rule-preserved c =
    let says = Holds c.args.problem.now c.args.k c.args.set.now in
    record {
      limits =
          subst (LookAt c.args.problem.now c.args.k c.args.set.now)
          (sym c.holds.ensures.same) c.loop-rule.invariant.limits;
      kept = below-next rank_of by_rank rules-ranked says rule_of ALL c.loop-rule.rule-index Base refl c.loop-rule-test.true c.loop-rule.invariant.kept (c.holds.ensures.value.0 c.if-not-holds.false);
    }

pub returns-then-not-holds : goal.returns-then-not-holds
returns-then-not-holds c =
    let says = Holds c.args.problem.now c.args.k c.args.set.now in
    fails-first rank_of by_rank rules-ranked says rule_of ALL c.loop-rule.rule-index Base refl c.loop-rule-test.true c.loop-rule.invariant.kept
    (λ holds. both_ways _ c.if-not-holds.true (c.holds.ensures.value.1 holds))

pub returns : goal.returns
returns c =
    let says = Holds c.args.problem.now c.args.k c.args.set.now in
    below-all rank_of by_rank rules-ranked says (λ rule before. c.loop-rule.invariant.kept rule (omega arith))
