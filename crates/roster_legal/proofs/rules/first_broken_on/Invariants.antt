use Rattle.roster_model.proofs.RuleLemmas.{HoldBelow}
use Rattle.roster_model.specs.Rules.{rank_of, Holds}
use Rattle.roster_legal.specs.Looks.{LookAt}
use Rattle.roster_legal.proofs.rules.first_broken_on.Given as goal

-- the rules so far hold
abbrev pub invariant-loop-rule : goal.invariant-loop-rule
invariant-loop-rule l = record {
  limits : LookAt l.problem l.k l.set l.limits;
  kept : HoldBelow rank_of (Holds l.problem l.k l.set) l.rule-index;
}
