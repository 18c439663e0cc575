use Rattle.std.proofs.Common.{[], ◌∷◌, w64, refl, sym, ap, subst, ◌∙◌}
use Rattle.std.proofs.lemmas.Int.{to_z-of_z}
use Rattle.roster_lines_table.specs.Entries.{entry_of}
use Rattle.roster_lines_table.specs.Tree.{entries_in, IsTree}
use Rattle.roster_lines_table.proofs.TreeLemmas.{entries_in-first, IsTree-first}
use Rattle.roster_lines_table.proofs.lines.Lines.empty.Goals as goal

pub invariant_of-result : goal.invariant_of-result
invariant_of-result c = subst IsTree (sym c.in_ok-lines.ensures.items) (IsTree-first _ refl refl)

pub returns : goal.returns
returns c =
    ap entries_in c.in_ok-lines.ensures.items ∙ entries_in-first _
    ∙ ap (λ cost. entry_of [] cost ∷ []) (to_z-of_z w64 c.args.cost c.ranges.cost)
