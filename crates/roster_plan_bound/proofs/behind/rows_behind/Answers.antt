use Rattle.roster_plan_bound.proofs.BehindLemmas.{rows_are}
use Rattle.roster_plan_bound.proofs.behind.rows_behind.Goals as goal

pub returns : goal.returns
returns c =
    let valued = c.args.valued.now in
    rows_are valued.problem.now valued.person valued.timeline.now valued.values.now c.args.p
    (record { none = c.in_ok-none.none; one = c.in_ok-one.one; two = c.in_ok-two.two })
    c.in_ok-none.ensures c.in_ok-one.ensures c.in_ok-two.ensures
