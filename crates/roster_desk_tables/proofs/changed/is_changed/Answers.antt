use Rattle.std.proofs.Common.{◌≡◌, ◌<◌, length, rules, subst, sym}
use Rattle.roster_desk_tables.specs.Changed.{days_of, is_touched}
use Rattle.roster_desk_tables.proofs.Steps.{any_below}
use Rattle.roster_desk_tables.proofs.changed.is_changed.Goals as goal

pub returns-then-is_touched : goal.returns-then-is_touched
returns-then-is_touched c =
    let problem = c.args.problem.now in
    let days : c.days-i-end.result ≡ length (days_of problem c.args.k).eight = search rules in
    let below : c.loop-i.i < length (days_of problem c.args.k).eight =
    subst (λ n. c.loop-i.i < n) days c.loop-i-test.true in
    sym (any_below (is_touched problem c.args.before.now c.args.after.now c.args.k) _ c.loop-i.i below
    (sym c.if-is_touched.ensures))
