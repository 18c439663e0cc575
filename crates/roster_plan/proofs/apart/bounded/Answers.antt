use Rattle.std.proofs.Common.{sym, subst}
use Rattle.roster_plan.specs.Bases.{AreGaps}
use Rattle.roster_plan.proofs.GapLemmas.{gaps_written}
use Rattle.roster_plan.proofs.apart.bounded.Goals as goal

pub close_all-requires-clause-gaps : goal.close_all-requires-clause-gaps
close_all-requires-clause-gaps g c κs within =
    let problem = c.args.lent.now.problem.now in
    let bounds = c.renew.new.bounds in
    let looked = gaps_written problem bounds.gaps.len bounds.gaps.items c.raised.new.gaps c.in_ok-renew.ensures c.raised.ensures.gaps in
    subst (AreGaps problem) (sym c.deref_mut-2.ensures.value) looked

pub closed-requires-clause-gaps : goal.closed-requires-clause-gaps
closed-requires-clause-gaps g c =
    let problem = c.args.lent.now.problem.now in
    let bounds = c.renew.new.bounds in
    let looked = gaps_written problem bounds.gaps.len bounds.gaps.items c.raised.new.gaps c.in_ok-renew.ensures c.raised.ensures.gaps in
    let closed = gaps_written problem bounds.gaps.len _ c.close_all.new.gaps looked c.close_all.ensures in
    subst (AreGaps problem) (sym c.deref-5.ensures.value) closed

pub returns-clause-bounds : goal.returns-clause-bounds
returns-clause-bounds g c =
    let problem = c.args.lent.now.problem.now in
    let bounds = c.renew.new.bounds in
    let looked = gaps_written problem bounds.gaps.len bounds.gaps.items c.raised.new.gaps c.in_ok-renew.ensures c.raised.ensures.gaps in
    gaps_written problem bounds.gaps.len _ c.close_all.new.gaps looked c.close_all.ensures
