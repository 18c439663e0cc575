use Rattle.std.proofs.Common.{◌<◌, length, subst}
use Rattle.roster_desk_fault.proofs.Begun.{goes_on}
use Rattle.roster_desk_fault.specs.Firsts.{IsKeptAt, IsTold}
use Rattle.roster_desk_fault.proofs.judging.find_faults.Goals as goal

pub loop-n-preserved : goal.loop-n-preserved
loop-n-preserved c kept =
    goes_on c.args.first c.in-Some.fault c.loop-n.next _ _ c.loop-n.rows.items _ c.in-Some-kept_at.at _ _ (c.loop-n.invariant kept) c.in-Some.is kept
    (subst (λ rows. IsKeptAt rows c.in-Some.fault.row c.in-Some-kept_at.at) c.deref.ensures.value c.in-Some-kept_at.ensures)
    (subst (λ rows. c.in-Some-kept_at.at < length rows → IsTold c.in-Some-kept_at.at c.in-Some.fault.code c.loop-n.told.items c.push_told.new.told.items)
    c.deref-in-loop-n.ensures.value c.in_ok-push_told.ensures)
