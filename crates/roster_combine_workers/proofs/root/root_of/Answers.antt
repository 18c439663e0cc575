use Rattle.std.proofs.Common.{ℕ, List, [], sym, ◌∙◌, subst}
use Rattle.roster_subtreepool_spans.specs.Spans.{IsInSpan}
use Rattle.roster_combine_workers.proofs.RootLemmas.{in_root}
use Rattle.roster_combine_workers.proofs.root.root_of.Goals as goal

pub returns : goal.returns
returns c problem is places legal =
    let table = c.args.table.now in
    subst (λ (path : List ℕ). IsInSpan table (record { path = path; lo = 0; hi = c.width.result }) places)
    (sym (c.new-2.ensures ∙ c.new.ensures.items))
    (subst (λ (hi : ℕ). IsInSpan table (record { path = []; lo = 0; hi = hi }) places) (sym c.width.ensures)
    (in_root problem table places c.requires is legal))
