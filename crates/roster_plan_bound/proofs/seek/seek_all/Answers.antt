use Rattle.std.proofs.Common.{◌≡◌, true}
use Rattle.std.proofs.lemmas.Result.{IfOk-weaker}
use Rattle.roster_plan_bound.specs.Prospects.{IsLeastPath}
use Rattle.roster_plan_bound.proofs.seek.seek_all.Goals as goal

pub returns-clause-least : goal.returns-clause-least
returns-clause-least c =
    let o = c.args.prospect.now in
    IfOk-weaker c.seek.result _ (λ all. all ≡ true → IsLeastPath o.problem o.person o.timeline o.units c.seek.new.least)
    (λ all least yes. c.start_of-root.ensures.all c.seek.new.least (least yes))
    c.seek.ensures.least
