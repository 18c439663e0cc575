use Rattle.roster_plan_bound.specs.Behinds.{AreBehind}
use Rattle.roster_plan_bound.proofs.behind.behind_of.Given as goal

-- the table is right at any time
abbrev pub invariant-loop-back : goal.invariant-loop-back
invariant-loop-back l = AreBehind l.valued.problem.now l.valued.person l.valued.timeline.now l.valued.values.now l.behind
