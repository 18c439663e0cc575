use Rattle.std.proofs.Common.{ap, ◌∙◌}
use Rattle.roster_bounds.specs.Chosen.{line_set, reduced_at, PricedTable}
use Rattle.roster_bounds.proofs.PricedLines.{same_word128}
use Rattle.roster_bounds.proofs.tables.Tables.reduced.Goals as goal

pub returns-clause-value : goal.returns-clause-value
returns-clause-value c =
    same_word128 c.reduced.result c.reduced.type_inv ∙ c.reduced.ensures.value
    ∙ ap (λ (t : PricedTable). reduced_at t c.args.k (line_set t.table c.args.k c.args.i)) c.self.view_is
