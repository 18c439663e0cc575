use Rattle.std.proofs.Common.{sym, arith}
use Rattle.roster_instants.proofs.SecondLemmas.{IsHour, IsSecond, converts, second_of, second_back}
use Rattle.roster_instants.proofs.clocks.Clocks.second_at.Goals as goal
use Rattle.roster_instants.proofs.clocks.Clocks.second_at.Goals.{After-as_second}

pub unwrap-instant-requires : goal.unwrap-instant-requires
unwrap-instant-requires c =
    let is : IsHour c.moment.result c.args.day c.args.hour = assumption in
    converts _ c.moment.result c.args.day c.args.hour c.to_timestamp.result is c.to_timestamp.ensures

-- the seconds that the clocks' hour stands for
the_second : (c : After-as_second) → IsSecond c.args.self.now c.args.day c.args.hour c.as_second.result
the_second c =
    let is : IsHour c.moment.result c.args.day c.args.hour = assumption in
    second_of _ c.args.self.now c.moment.result c.args.day c.args.hour c.to_timestamp.result c.unwrap-instant.result c.as_second.result
    c.self.invariant
    (sym c.self.view_is) is c.to_timestamp.ensures c.unwrap-instant.ensures c.as_second.ensures

pub overflow_cast-result : goal.overflow_cast-result
overflow_cast-result c =
    let s = the_second c in
    let most = s.most in
    rw (second_back c.as_second.result s.second s.seconds most) (tt, omega arith)

pub returns-clause-value : goal.returns-clause-value
returns-clause-value c =
    let s = the_second c in
    rw (second_back c.as_second.result s.second s.seconds s.most) (sym s.is)

pub returns-clause-bound : goal.returns-clause-bound
returns-clause-bound c =
    let s = the_second c in
    let most = s.most in
    rw (second_back c.as_second.result s.second s.seconds most) (omega arith)
