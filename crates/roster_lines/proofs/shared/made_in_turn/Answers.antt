use Rattle.std.proofs.Common.{ℕ, ◌<◌, List, length, Result, ap, arith}
use Rattle.std.proofs.lemmas.List.Elements.{All-push, All-same}
use Rattle.roster_lines_table.specs.Entries.{Entry}
use Rattle.roster_lines.specs.declared.extend.LinesFault.{LinesFault}
use Rattle.roster_lines.specs.Made.{IsMadeOf}
use Rattle.roster_lines.proofs.Made.{IsMadeOf-from_clauses}
use Rattle.roster_lines.proofs.shared.made_in_turn.Goals as goal

pub loop-preserved : goal.loop-preserved
loop-preserved c =
    let problem = c.args.problem.now in
    let k = c.fetch_add-k.result in
    let of : ℕ × Result (List Entry) LinesFault → Type 0 =
    λ made. (made.0 < length problem.persons) × IsMadeOf problem made.0 made.1 in
    let made = IsMadeOf-from_clauses problem k c.lines_of.result c.lines_of.ensures.lines c.lines_of.ensures.costs c.lines_of.ensures.few c.lines_of.ensures.fault in
    let inside : k < length problem.persons =
    omega (arith, c.if-k-persons.false, ap length c.persons-persons.ensures.value) in
    All-same of _ _ c.in_ok-push.ensures.items
    (All-push of c.loop.all.items _ c.loop.invariant (inside, made))
