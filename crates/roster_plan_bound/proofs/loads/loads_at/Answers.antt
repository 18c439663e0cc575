use Rattle.std.proofs.Common.{◌≡◌, ℕ, get_or, ap, ◌∙◌}
use Rattle.std.proofs.lemmas.Option.{slice_get-get_or}
use Rattle.roster_model.proofs.PushLemmas.{each-next}
use Rattle.roster_plan_bound.specs.Loads.{load_at}
use Rattle.roster_plan_bound.proofs.loads.loads_at.Goals as goal

pub loop-p-preserved : goal.loop-p-preserved
loop-p-preserved c =
    let known = λ (q load : ℕ). load ≡ load_at c.args.problem.now c.args.k c.args.at q in
    let taken = c.index-each-p.result in
    let at = slice_get-get_or c.args.each.now c.loop-p.p taken c.loop-p-test.true in
    let is = c.requires.are c.loop-p.p (get_or c.args.each.now c.loop-p.p taken) at in
    let here : c.minutes_at.result ≡ load_at c.args.problem.now c.args.k c.args.at c.loop-p.p =
    c.minutes_at.ensures.value ∙ ap (λ xs. get_or xs c.args.at 0) (c.deref.ensures.value ∙ is) in
    let next = each-next known c.loop-p.p c.loop-p.loads.items c.push.new.self.items c.minutes_at.result c.in_ok-push.ensures.items c.loop-p.invariant.long c.loop-p.invariant.each here in
    record { long = next.0; each = next.1 }
