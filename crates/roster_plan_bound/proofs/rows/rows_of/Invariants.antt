use Rattle.roster_plan_bound.specs.Networks.{AreSoFar}
use Rattle.roster_plan_bound.proofs.rows.rows_of.Given as goal

-- the rows so far, and the tails
abbrev pub invariant-loop-back : goal.invariant-loop-back
invariant-loop-back l = AreSoFar l.chains.problem.now l.chains.network.now l.chains.values.now l.rows.items l.tails.items l.back
