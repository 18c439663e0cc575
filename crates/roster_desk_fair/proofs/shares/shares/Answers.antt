use Rattle.std.proofs.Common.{arith, rules}
use Rattle.std.specs.Prelude.{slice_index_or}
use Rattle.roster_desk_fair.specs.Fair.{shares_of}
use Rattle.roster_desk_fair.proofs.Lists.{no-more, one-more}
use Rattle.roster_desk_fair.proofs.shares.shares.Goals as goal

pub loop-i-preserved : goal.loop-i-preserved
loop-i-preserved c =
    let flight = c.args.flight in
    let weights = c.args.weights.now in
    let own = slice_index_or weights c.loop-i.i 0 in
    let more = one-more flight c.in-Some.whole c.loop-i.before own c.loop-i.i weights c.loop-i.shares.items (shares_of flight weights)
    c.loop-i-test.true (search rules) c.loop-i.invariant in
    rw (c.in_ok-push.ensures, c.in-Some-next_share.ensures.0, c.in-Some-next_share.ensures.1) more

pub returns-clause-found : goal.returns-clause-found
returns-clause-found c =
    let flight = c.args.flight in
    let weights = c.args.weights.now in
    no-more flight c.in-Some.whole c.loop-i.before weights c.loop-i.shares.items (shares_of flight weights) c.loop-i.i
    (omega (arith, c.loop-i-test.false, c.loop-i.auto.i-end)) c.loop-i.invariant
