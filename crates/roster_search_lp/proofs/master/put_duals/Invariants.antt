use Rattle.roster_search_lp.specs.Programs.{AreDuals}
use Rattle.roster_search_lp.proofs.master.put_duals.Given as goal

abbrev pub invariant-loop-p : goal.invariant-loop-p
invariant-loop-p l = AreDuals l.prices
