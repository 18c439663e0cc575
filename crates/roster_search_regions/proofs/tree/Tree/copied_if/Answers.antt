use Rattle.std.proofs.Common.{◌≡◌, subst}
use Rattle.std.specs.Prelude.{IfOk}
use Rattle.roster_search_regions.proofs.MarkLemmas.{filter-all}
use Rattle.roster_search_regions.proofs.tree.Tree.copied_if.Goals as goal

pub returns-then-wanted : goal.returns-then-wanted
returns-then-wanted c =
    subst (λ lines. IfOk c.copied_passing.result (λ tree. tree ≡ lines)) (filter-all c.args.self)
    c.copied_passing.ensures
