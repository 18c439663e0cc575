use Rattle.std.proofs.Common.{◌≡◌, ◌+◌, subst, inl, inr, arith}
use Rattle.std.proofs.lemmas.Bool.{cases_eq, cases_lt}
use Rattle.roster_model.specs.Rules.DaysOff.{IsPairOff}
use Rattle.roster_legal_reasons.proofs.rules.days_off.few_days_off.Goals as goal

pub returns-in_default : goal.returns-in_default
returns-in_default c i pair = c.in_default.ensures i pair.begins pair

pub returns-in-Some-first_pair_from : goal.returns-in-Some-first_pair_from
returns-in-Some-first_pair_from c = record {
  first = c.in-Some.first;
  second = c.in-Some-first_pair_from.field-0;
  apart = c.in-Some-first_pair_from.ensures.after;
  once = c.in-Some.ensures.off;
  twice = c.in-Some-first_pair_from.ensures.off;
}

pub returns-in-None : goal.returns-in-None
returns-in-None c =
    let first = c.in-Some.first in (
      c.in-Some.ensures.off,
      λ i pair. elim (cases_eq i first) [
        | inl same ↦ same
        | inr other ↦ elim (cases_lt i first) [
          | inl before ↦ absurd (c.in-Some.ensures.first i pair.begins before pair)
          | inr on ↦ absurd (c.in-None.ensures i (omega arith) pair)
        ]
      ],
    )

pub returns-in-Some-first_pair_from-2 : goal.returns-in-Some-first_pair_from-2
returns-in-Some-first_pair_from-2 c =
    let first = c.in-Some.first in
    let p = c.in-Some-first_pair_from-2.field-0 in
    let found = c.in-Some-first_pair_from-2.ensures in
    let next : p ≡ first + 1 = elim (cases_lt p (first + 2)) [
      | inl below ↦ let after = found.after in omega arith
      | inr on ↦ absurd (c.in_default-first_pair_from.ensures p on found.off)
    ] in (
      c.in-Some.ensures.off,
      subst (IsPairOff c.args.days.now c.args.list.now) next found.off,
      λ i pair. elim (cases_lt i first) [
        | inl before ↦ absurd (c.in-Some.ensures.first i pair.begins before pair)
        | inr on ↦ elim (cases_lt i (first + 2)) [
          | inl below ↦ elim (cases_eq i first) [ inl same ↦ inl same | inr other ↦ inr (omega arith) ]
          | inr past ↦ absurd (c.in_default-first_pair_from.ensures i past pair)
        ]
      ],
    )
