use Rattle.std.proofs.Common.{◌≡◌, ◌+◌, length, ap, arith}
use Rattle.roster_search_least.proofs.FirstLemmas.{agree_before_first, goes_on_none, goes_on_then, settled_at_end, settled_if_empty}
use Rattle.roster_search_least.proofs.first.first.Goals as goal

pub loop-p-init : goal.loop-p-init
loop-p-init g c = record {
  agree = agree_before_first c.args.problem.now c.args.region.now c.args.roster.now c.requires.region c.requires.held;
  on = goes_on_none c.args.problem.now c.args.region.now c.args.roster.now;
  goes_on = g.met.F.Finder.stays _;
}

pub loop-p-preserved : goal.loop-p-preserved
loop-p-preserved g c =
    let settled = c.in_ok-settle.ensures.settled in
    record {
      agree = settled.agree;
      on = goes_on_then c.args.problem.now c.args.region.now c.loop-p.region c.settle.new.region c.args.roster.now c.loop-p.roster c.settle.new.roster c.loop-p.invariant.on settled.on;
      goes_on = g.met.F.Finder.follows _ _ _ c.loop-p.invariant.goes_on c.settle.ensures.goes_on;
    }

pub returns-then-is_empty-clause-settled : goal.returns-then-is_empty-clause-settled
returns-then-is_empty-clause-settled g c =
    let settled = c.in_ok-settle.ensures.settled in
    settled_if_empty c.args.problem.now c.args.region.now c.settle.new.region c.args.roster.now c.settle.new.roster (c.loop-p.p + 1) c.requires.least settled.agree
    (goes_on_then c.args.problem.now c.args.region.now c.loop-p.region c.settle.new.region c.args.roster.now c.loop-p.roster c.settle.new.roster c.loop-p.invariant.on settled.on)
    (c.is_empty.ensures c.if-is_empty.true)

pub returns-clause-settled : goal.returns-clause-settled
returns-clause-settled g c =
    let all : c.loop-p.p ≡ length c.args.problem.now.pairings =
    omega (arith, ap length c.pairings-p-end.ensures.value) in
    settled_at_end c.args.problem.now c.args.region.now c.loop-p.region c.args.roster.now c.loop-p.roster c.loop-p.p c.requires.least c.loop-p.invariant.agree c.loop-p.invariant.on all

pub returns-in_err-settle-clause-goes_on : goal.returns-in_err-settle-clause-goes_on
returns-in_err-settle-clause-goes_on g c = g.met.F.Finder.follows _ _ _ c.loop-p.invariant.goes_on c.settle.ensures.goes_on

pub returns-then-is_empty-clause-goes_on : goal.returns-then-is_empty-clause-goes_on
returns-then-is_empty-clause-goes_on g c = g.met.F.Finder.follows _ _ _ c.loop-p.invariant.goes_on c.settle.ensures.goes_on
