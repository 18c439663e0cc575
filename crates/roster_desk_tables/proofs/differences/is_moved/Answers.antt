use Rattle.std.proofs.Common.{length, sym}
use Rattle.roster_desk_tables.proofs.Steps.{any_below}
use Rattle.roster_desk_tables.specs.Differences as spec
use Rattle.roster_desk_tables.proofs.differences.is_moved.Goals as goal

-- src/differences.rt:96:13
pub returns-then-is_moved_at : goal.returns-then-is_moved_at
returns-then-is_moved_at c =
    sym (any_below (spec.is_moved_at c.args.before.now c.args.after.now c.args.k) (length c.args.before.now) c.loop-p.p
    c.loop-p-test.true (sym c.if-is_moved_at.ensures))
