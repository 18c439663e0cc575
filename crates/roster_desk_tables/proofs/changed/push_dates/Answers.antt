use Rattle.std.proofs.Common.{subst}
use Rattle.roster_desk_tables.specs.Changed.{MayHaveDate}
use Rattle.roster_desk_tables.proofs.Having.{have_more, have_none}
use Rattle.roster_desk_tables.proofs.changed.push_dates.Goals as goal

pub loop-i-init : goal.loop-i-init
loop-i-init c = have_none _ _

pub loop-i-preserved : goal.loop-i-preserved
loop-i-preserved c =
    let old = c.loop-i.out.items in
    let new = c.push_date.new.out.items in
    have_more _ _ _ _ _ c.loop-i.invariant
    (subst (λ b. MayHaveDate b c.args.problem.now c.loop-i.i old new) c.is_touched-touched.ensures
    c.in_ok-push_date.ensures)
