use Rattle.std.proofs.Common.{subst, inl, inr, arith}
use Rattle.std.proofs.lemmas.Bool.{cases_eq, both_ways}
use Rattle.roster_model.specs.Rules.DaysOff.{IsPairOff}
use Rattle.roster_legal_reasons.proofs.rules.days_off.first_pair_from.Goals as goal

pub loop-i-preserved : goal.loop-i-preserved
loop-i-preserved c j after below pair =
    elim (cases_eq j c.loop-i.i) [
      | inl same ↦ both_ways _ c.if-is_pair_off.false (c.is_pair_off.ensures.1 (subst (IsPairOff c.args.days.now c.args.list.now) same pair))
      | inr other ↦ c.loop-i.invariant j after (omega arith) pair
    ]

pub returns : goal.returns
returns c j after pair =
    let ends = pair.ends in
    c.loop-i.invariant j after (omega arith) pair
