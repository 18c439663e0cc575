use Rattle.std.proofs.Common.{sym, subst, arith}
use Rattle.std.specs.Prelude.{slice_index_or}
use Rattle.std.proofs.lemmas.List.Elements.{All-set}
use Rattle.roster_plan.specs.Bases.{AreGaps, IsGap}
use Rattle.roster_plan.proofs.apart.renew_costs.Goals as goal
use Rattle.roster_plan.proofs.apart.renew_costs.Goals.{in-Some, in_default}

pub loop-i-preserved : goal.loop-i-preserved
loop-i-preserved c problem are =
    let before = c.loop-i.invariant problem are in
    elim c.match-get.branch [
      | in-Some w ↦
          let seen = w.index-gaps-i-in-Some.result in
          let old = slice_index_or c.loop-i.gaps c.loop-i.i seen in
          let one = before c.loop-i.i seen (omega (arith, c.loop-i.auto.gaps, c.loop-i-test.true)) in
          subst (AreGaps problem) (sym w.gaps-is)
          (All-set (IsGap problem) c.loop-i.gaps c.loop-i.i (record old { cost = _ })
          (record { base = one.base; same = one.same; of = one.of; found = one.found }) before)
      | in_default w ↦ subst (AreGaps problem) (sym w.gaps-is) before
    ]
