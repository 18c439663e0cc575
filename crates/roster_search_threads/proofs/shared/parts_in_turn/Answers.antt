use Rattle.std.proofs.lemmas.List.Elements.{All-push, All-same}
use Rattle.roster_search_least.specs.Parts.{IsBasePart}
use Rattle.roster_search_threads.proofs.shared.parts_in_turn.Goals as goal

pub loop-preserved : goal.loop-preserved
loop-preserved g c =
    let part = IsBasePart c.args.lines.now.problem.now c.args.lines.now.table.now c.args.lines.now.ranges.now in
    All-same part _ _ c.in_ok-push.ensures.items
    (All-push part c.loop.parts.items _ c.loop.invariant c.in_ok-least.ensures)
