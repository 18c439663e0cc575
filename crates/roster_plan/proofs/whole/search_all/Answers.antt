use Rattle.std.proofs.Common.{sym, subst}
use Rattle.roster_plan.specs.Bases.{IsWhole}
use Rattle.roster_plan.proofs.whole.search_all.Goals as goal

pub for_each_mut-requires-clause-accepts : goal.for_each_mut-requires-clause-accepts
for_each_mut-requires-clause-accepts g c κs within i one inside same = (
  c.requires.pairs,
  c.requires.parts,
  subst (IsWhole c.args.problem.now) (sym same) (c.requires.wholes i one.now inside),
)
