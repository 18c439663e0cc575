use Rattle.std.proofs.Common.{sym, ap, ◌∙◌}
use Rattle.std.proofs.lemmas.Slice.Eq.{bytes_eq-Decides}
use Rattle.roster_model.specs.Rules.{is_among}
use Rattle.roster_model.proofs.SetLemmas.{Ascends-from_rising, same_set}
use Rattle.roster_search_regions.proofs.writer.is_same.Goals as goal

pub returns : goal.returns
returns c =
    let set = c.args.set.now in
    let other = c.args.other.now in
    let decides = bytes_eq-Decides set other in (
      λ yes. λ p. ap (λ s. is_among s p) (decides.0 (sym c.eq.ensures ∙ yes)),
      λ same. c.eq.ensures ∙ decides.1 (same_set set other (Ascends-from_rising set c.has.ensures.ascending) (Ascends-from_rising other c.has-2.ensures.ascending) same),
    )
