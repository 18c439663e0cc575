use Rattle.std.proofs.Common.{◌≡◌, ◌∙◌, length, ap, arith}
use Rattle.std.proofs.lemmas.Int.{ints}
use Rattle.roster_bounds.specs.Chosen.{line_set, reduced_at, ChosenLines}
use Rattle.roster_bounds.proofs.PricedLines.{same_word128}
use Rattle.roster_bounds.proofs.node.Node.reduced_if_apart.Goals as goal

pub returns-clause-below : goal.returns-clause-below
returns-clause-below c apart =
    let tables = c.self.inside.tables.now in
    let items = c.self.inside.lines.ok.0 in
    let count : c.len.result ≡ length c.self.inside.lines.items = omega (arith, c.len.ensures, items) in
    let told = same_word128 c.reduced.result c.reduced.type_inv ∙ c.reduced.ensures.value ∙ ap (λ k. reduced_at tables k (line_set tables.table k c.args.i)) count ∙ ap (λ (n : ChosenLines). reduced_at n.tables (length n.lines) (line_set n.tables.table (length n.lines) c.args.i)) c.self.view_is in
    omega (arith, ints, told)
