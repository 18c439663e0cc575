use Rattle.std.proofs.Common.{◌<◌, length, sym, subst}
use Rattle.roster_model.specs.Lines.{IsLine}
use Rattle.roster_lines_table.specs.Person.{lines_at}
use Rattle.roster_bounds.specs.Chosen.{PricedTable}
use Rattle.roster_bounds.proofs.PricedLines.{line_is, line_set-at}
use Rattle.roster_bounds.proofs.tables.Tables.set.Goals as goal

pub returns-clause-line : goal.returns-clause-line
returns-clause-line c =
    let problem = c.self.inside.problem.now in
    let table = c.self.inside.table.now in
    let person =
    subst (λ (t : PricedTable). c.args.k < length t.problem.persons)
    (sym c.self.view_is) c.requires.person in
    let line =
    subst (λ (t : PricedTable). c.args.i < length (lines_at t.table c.args.k))
    (sym c.self.view_is) c.requires.line in
    subst (λ (t : PricedTable). IsLine t.problem c.args.k c.set.result) c.self.view_is
    (subst (IsLine problem c.args.k) (line_set-at table c.args.k c.args.i c.set.result c.set.ensures)
    (line_is problem table c.args.k c.args.i c.self.invariant.0.priced.lines person line))
