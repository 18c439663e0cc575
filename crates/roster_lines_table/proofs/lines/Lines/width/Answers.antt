use Rattle.std.proofs.Common.{◌≡◌, length, sym, ap, ◌∙◌, arith}
use Rattle.roster_lines_table.proofs.TreeLemmas.{length-entries_in}
use Rattle.roster_lines_table.proofs.lines.Lines.width.Goals as goal

pub returns-clause-value : goal.returns-clause-value
returns-clause-value c =
    let long : length c.args.self.now ≡ length c.self.inside.lines.items =
    ap length (sym c.self.view_is) ∙ length-entries_in c.self.inside.lines.items in
    let items = c.self.inside.lines.ok.0 in
    omega (arith, c.len.ensures)
