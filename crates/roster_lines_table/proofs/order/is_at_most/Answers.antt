use Rattle.std.proofs.Common.{sym, ap₂}
use Rattle.roster_model.specs.Places.{places_le}
use Rattle.roster_values.proofs.SetParts.{places_from-first}
use Rattle.roster_lines_table.proofs.order.is_at_most.Goals as goal

pub loop-p-init : goal.loop-p-init
loop-p-init c = sym (ap₂ places_le (places_from-first c.args.a.now) (places_from-first c.args.b.now))
