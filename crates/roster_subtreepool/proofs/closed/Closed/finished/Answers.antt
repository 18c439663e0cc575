use Rattle.std.proofs.Common.{subst, arith}
use Rattle.roster_subtreepool.specs.States.{IsEnd}
use Rattle.roster_subtreepool.proofs.LiesLemmas.{end-times, finds}
use Rattle.roster_subtreepool.proofs.closed.Closed.finished.Goals as goal

pub returns-clause-once : goal.returns-clause-once
returns-clause-once c numbers box =
    end-times c.args.self.now numbers (subst IsEnd c.self.view_is c.self.invariant) box

pub returns-clause-found : goal.returns-clause-found
returns-clause-found c numbers box =
    let once = end-times c.args.self.now numbers (subst IsEnd c.self.view_is c.self.invariant) box in
    let found = finds numbers c.args.self.now.finished (omega (arith, once)) in
    (found.place, found.worker, found.span, found.at, found.lies)
