use Rattle.std.proofs.Common.{◌+◌, ℤ, w64, to_z, sym, subst, FitsSigned, rules}
use Rattle.std.proofs.lemmas.Int.{to_z-of_z}
use Rattle.roster_plan.specs.Floors.{IsFloorAmong}
use Rattle.roster_plan.proofs.FloorLemmas.{one_person_more}
use Rattle.roster_plan.proofs.bound.floor.Goals as goal

pub loop-k-preserved : goal.loop-k-preserved
loop-k-preserved c =
    let problem = c.args.problem.now in
    let k = c.loop-k.k in
    let least : ℤ = c.lower-least.result in
    let fits : FitsSigned w64 least = search rules in
    subst (IsFloorAmong problem c.args.base (k + 1) c.args.p) (sym (to_z-of_z w64 least fits)) (one_person_more problem c.args.base k c.args.p (to_z w64 c.loop-k.least-bits) least c.loop-k.invariant c.lower-least.ensures)
