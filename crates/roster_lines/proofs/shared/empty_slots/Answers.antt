use Rattle.std.proofs.Common.{List, Result, Err}
use Rattle.roster_model.proofs.PushLemmas.{each-next}
use Rattle.roster_lines_table.specs.Entries.{Entry}
use Rattle.roster_lines.specs.declared.extend.LinesFault.{LinesFault}
use Rattle.roster_lines.specs.declared.extend.LinesFault.TheVariants.{Memory}
use Rattle.roster_lines.specs.Made.{IsMadeOf}
use Rattle.roster_lines.proofs.shared.empty_slots.Goals as goal

pub loop-preserved : goal.loop-preserved
loop-preserved c =
    let empty : Result (List Entry) LinesFault = Err Memory in
    let next = each-next (IsMadeOf c.args.problem.now) c.loop.counter c.loop.slots.items c.push.new.self.items empty c.in_ok-push.ensures.items c.loop.invariant.long c.loop.invariant.each tt in
    record { long = next.0; each = next.1 }
