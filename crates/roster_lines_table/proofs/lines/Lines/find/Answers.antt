use Rattle.std.proofs.Common.{◌≡◌, ℕ, not, Some, inl, inr, sym, ap, subst, ◌∙◌, arith}
use Rattle.std.specs.Prelude.{slice_get}
use Rattle.std.specs.Str.{bytes_eq}
use Rattle.std.proofs.lemmas.Bool.{both_ways, cases_Bool}
use Rattle.std.proofs.lemmas.Option.{none-some, same_Some, slice_get_within}
use Rattle.std.proofs.lemmas.Slice.Eq.{bytes_eq-Decides}
use Rattle.roster_lines_table.specs.Entries.{sets_of}
use Rattle.roster_lines_table.proofs.Cuts.{cut_at}
use Rattle.roster_lines_table.proofs.TreeLemmas.{length-sets_of}
use Rattle.roster_lines_table.proofs.lines.Lines.find.Goals.{then-i-width-via-then-i-width, then-i-width-via-else-i-width+then-ne}
use Rattle.roster_lines_table.proofs.lines.Lines.find.Goals as goal

pub returns-then-i-width : goal.returns-then-i-width
returns-then-i-width c i =
    let sets = sets_of c.args.self.now in
    let n : ℕ = c.count_before-i.result in (
      λ e. absurd (none-some i e),
      λ at.
          let here : n ≡ i =
          cut_at sets c.width.ensures.ordered c.args.set.now n i c.count_before-i.ensures at in
          let inside = slice_get_within sets i c.args.set.now at in
          absurd (elim c.then-i-width.branch [
            | then-i-width-via-then-i-width w ↦ omega (arith, w.if-i-width.true, c.width.ensures.value, length-sets_of c.args.self.now)
            | then-i-width-via-else-i-width+then-ne w ↦
                let same = same_Some _ _ (sym w.set.ensures ∙ ap (slice_get sets) here ∙ at) in
                both_ways _ (ap not ((bytes_eq-Decides w.set.result c.args.set.now).1 same))
                (sym w.ne.ensures ∙ w.if-ne.true)
          ]),
    )

pub returns : goal.returns
returns c i =
    let sets = sets_of c.args.self.now in
    let n : ℕ = c.count_before-i.result in
    let same : c.set.result ≡ c.args.set.now = elim (cases_Bool (bytes_eq c.set.result c.args.set.now)) [
      | inl same ↦ (bytes_eq-Decides c.set.result c.args.set.now).0 same
      | inr other ↦ absurd (both_ways _ (sym c.ne.ensures ∙ c.if-ne.false) (ap not other))
    ] in (
      λ e. subst (λ j. slice_get sets j ≡ Some c.args.set.now) (same_Some n i e) (c.set.ensures ∙ ap Some same),
      λ at. ap Some (cut_at sets c.width.ensures.ordered c.args.set.now n i c.count_before-i.ensures at),
    )
