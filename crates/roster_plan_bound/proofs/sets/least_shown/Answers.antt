use Rattle.std.proofs.Common.{w64, to_z, of_z}
use Rattle.roster_plan_bound.proofs.LeastLemmas.{least_word, one_of_two}
use Rattle.roster_plan_bound.proofs.sets.least_shown.Goals as goal

pub returns-in-Some : goal.returns-in-Some
returns-in-Some c =
    let o = c.args.prospect.now in
    one_of_two o.problem o.prices o.person (to_z w64 (of_z w64 c.args.known)) c.better.result c.in_ok-found.found
    (least_word o.problem o.prices o.person c.args.known c.requires) c.in_ok-found.ensures.least c.better.ensures.one
