use Rattle.std.proofs.Common.{◌≡◌, ℕ, true, ◌∙◌}
use Rattle.roster_model.specs.Rules.{is_among}
use Rattle.roster_legal.specs.declared.loads.Load.{Load}
use Rattle.roster_legal.specs.Stepping.{IsLoad}
use Rattle.roster_model.proofs.PushLemmas.{each-next}
use Rattle.roster_legal.proofs.loads.all_loads.Goals as goal

pub loop-p-preserved : goal.loop-p-preserved
loop-p-preserved c =
    let known = λ (q : ℕ) (load : Load). is_among c.args.among.now q ≡ true → IsLoad c.args.problem.now c.args.k q load in
    let next = each-next known c.loop-p.p c.loop-p.loads.items c.push.new.self.items c.in_ok-load.load c.in_ok-push.ensures.items c.loop-p.invariant.long c.loop-p.invariant.each (λ h. c.in_ok-load.ensures (c.has.ensures.value ∙ h)) in
    record { long = next.0; each = next.1 }
