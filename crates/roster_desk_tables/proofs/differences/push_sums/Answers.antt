use Rattle.std.proofs.Common.{rules, ◌≡◌, ◌++◌, codes}
use Rattle.roster_desk_tables.specs.Differences.{cost_line, minutes_line}
use Rattle.roster_desk_tables.proofs.Steps.{behind}
use Rattle.roster_desk_tables.proofs.differences.push_sums.Goals as goal

-- src/differences.rt:214:1
pub returns : goal.returns
returns c =
    let cost : c.push_cost.new.out.items
    ≡ c.args.out.now.items ++ cost_line c.args.whose.now c.args.before.now.cost c.args.after.now.cost =
    search rules in
    let flight : c.push_minutes.new.out.items
    ≡ c.push_cost.new.out.items
    ++ minutes_line c.args.whose.now (codes "FLIGHT") c.args.before.now.flight c.args.after.now.flight =
    search rules in
    let duty7 : c.push_minutes-2.new.out.items
    ≡ c.push_minutes.new.out.items
    ++ minutes_line c.args.whose.now (codes "DUTY7") c.args.before.now.duty7 c.args.after.now.duty7 =
    search rules in
    let duty14 : c.push_minutes-3.new.out.items
    ≡ c.push_minutes-2.new.out.items
    ++ minutes_line c.args.whose.now (codes "DUTY14") c.args.before.now.duty14 c.args.after.now.duty14 =
    search rules in
    let duty28 : c.push_minutes-4.new.out.items
    ≡ c.push_minutes-3.new.out.items
    ++ minutes_line c.args.whose.now (codes "DUTY28") c.args.before.now.duty28 c.args.after.now.duty28 =
    search rules in
    let flight28 : c.push_minutes-5.new.out.items
    ≡ c.push_minutes-4.new.out.items
    ++ minutes_line c.args.whose.now (codes "FLIGHT28") c.args.before.now.flight28 c.args.after.now.flight28 =
    search rules in
    behind _ flight28 (behind _ duty28 (behind _ duty14 (behind _ duty7 (behind _ flight cost))))
