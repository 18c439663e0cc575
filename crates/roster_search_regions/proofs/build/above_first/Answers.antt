use Rattle.std.proofs.Common.{w64, get_or, sym, subst, ◌∙◌}
use Rattle.std.proofs.lemmas.Int.{to_z-of_z}
use Rattle.std.proofs.lemmas.Option.{slice_get-get_or}
use Rattle.roster_cost.specs.Amounts.{IsWithin, most_extra}
use Rattle.roster_lines_table.specs.Entries.{Entry}
use Rattle.roster_search_regions.proofs.Copied.{extra_in_words, no_entry}
use Rattle.roster_search_regions.proofs.build.above_first.Goals as goal

pub above-requires : goal.above-requires
above-requires c =
    let entry : Entry = get_or c.args.lines.now c.args.i no_entry in
    subst (IsWithin most_extra) (sym (extra_in_words c.args.lines.now c.args.i c.cost.result c.cost-2.result entry (record { sfits = c.cost.type_inv }) (record { sfits = c.cost-2.type_inv }) c.cost.ensures c.cost-2.ensures (slice_get-get_or c.args.lines.now c.args.i no_entry c.requires.inside))) (c.requires.near c.args.i no_entry c.requires.inside)

pub returns-clause-value : goal.returns-clause-value
returns-clause-value c entry at =
    to_z-of_z w64 c.above.result (record { sfits = c.above.type_inv }) ∙ c.above.ensures ∙ extra_in_words c.args.lines.now c.args.i c.cost.result c.cost-2.result entry (record { sfits = c.cost.type_inv }) (record { sfits = c.cost-2.type_inv }) c.cost.ensures c.cost-2.ensures at

pub returns-clause-bound : goal.returns-clause-bound
returns-clause-bound c =
    let entry : Entry = get_or c.args.lines.now c.args.i no_entry in
    subst (IsWithin most_extra) (sym (returns-clause-value c entry (slice_get-get_or c.args.lines.now c.args.i no_entry c.requires.inside))) (c.requires.near c.args.i no_entry c.requires.inside)
