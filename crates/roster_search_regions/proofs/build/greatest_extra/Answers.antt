use Rattle.std.proofs.Common.{ℕ, ℤ, ◌≡◌, ◌<◌, ◌≤◌, length, w64, get_or, subst, ap, ◌∙◌, arith, max, unsigned_abs}
use Rattle.std.proofs.lemmas.Int.{to_z-of_z}
use Rattle.std.proofs.lemmas.Option.{slice_get-get_or}
use Rattle.roster_cost.specs.Amounts.{IsWithin, most_extra}
use Rattle.roster_lines_table.specs.Entries.{Entry}
use Rattle.roster_search_regions.specs.Building.{extra_in}
use Rattle.roster_search_regions.proofs.Copied.{no_entry, one_entry}
use Rattle.roster_search_regions.proofs.Counted.{abs_from_within, greatest-more}
use Rattle.roster_search_regions.proofs.build.greatest_extra.Goals as goal

pub loop-i-preserved : goal.loop-i-preserved
loop-i-preserved c =
    let extras : ℕ → ℤ = λ j. extra_in c.args.lines.now (get_or c.args.lines.now j no_entry) in
    let inside : c.loop-i.i < length c.args.lines.now =
    omega (arith, c.min-i-end.ensures, c.width.ensures.value) in
    let at = slice_get-get_or c.args.lines.now c.loop-i.i no_entry inside in
    let is =
    to_z-of_z w64 c.above_first.result (record { sfits = c.above_first.type_inv })
    ∙ c.above_first.ensures.value (get_or c.args.lines.now c.loop-i.i no_entry) at in
    let far : c.unsigned_abs.result ≡ unsigned_abs (extras c.loop-i.i) =
    c.unsigned_abs.ensures.value ∙ ap unsigned_abs is in
    let near : unsigned_abs (extras c.loop-i.i) ≤ most_extra =
    abs_from_within (extras c.loop-i.i) most_extra (c.requires.near c.loop-i.i no_entry inside) in
    let greatest : c.larger-greatest.result ≡ max c.loop-i.greatest (unsigned_abs (extras c.loop-i.i)) =
    c.larger-greatest.ensures ∙ ap (max c.loop-i.greatest) far in
    record {
      bound = omega (arith, greatest, near, c.loop-i.invariant.bound);
      all = λ j d before.
          subst (λ (entry : Entry). IsWithin c.larger-greatest.result (extra_in c.args.lines.now entry))
          (one_entry c.args.lines.now j no_entry d (omega (arith, inside)))
          (greatest-more extras c.loop-i.greatest c.larger-greatest.result c.loop-i.i (λ k l. c.loop-i.invariant.all k no_entry l) greatest j before);
    }

pub returns-clause-all : goal.returns-clause-all
returns-clause-all c j d before inside =
    c.loop-i.invariant.all j d (omega (arith, c.min-i-end.ensures, c.width.ensures.value, before, inside))
