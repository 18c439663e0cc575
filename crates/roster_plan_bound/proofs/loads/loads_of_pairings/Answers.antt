use Rattle.std.proofs.Common.{ℕ}
use Rattle.roster_model.proofs.PushLemmas.{each-next}
use Rattle.roster_legal.specs.Stepping.{IsLoadOf}
use Rattle.roster_plan_bound.specs.declared.loads.Taken.{Taken}
use Rattle.roster_plan_bound.proofs.loads.loads_of_pairings.Goals as goal

pub loop-p-preserved : goal.loop-p-preserved
loop-p-preserved c =
    let known = λ (q : ℕ) (taken : Taken). IsLoadOf c.args.problem.now c.args.k q taken.minutes.items in
    let next = each-next known c.loop-p.p c.loop-p.each.items c.push.new.self.items c.in_ok-taken.taken c.in_ok-push.ensures.items c.loop-p.invariant.long c.loop-p.invariant.each c.in_ok-taken.ensures in
    record { long = next.0; each = next.1 }
