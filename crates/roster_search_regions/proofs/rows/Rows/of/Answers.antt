use Rattle.std.proofs.Common.{w64, to_z, of_z, sym, ap, ◌∙◌}
use Rattle.std.specs.Prelude.{Some}
use Rattle.std.proofs.lemmas.Int.{to_z-of_z}
use Rattle.roster_search_regions.specs.Marks.{picked}
use Rattle.roster_search_regions.specs.Rows.{choices_of}
use Rattle.roster_search_regions.specs.Trees.{lines_in}
use Rattle.roster_search_regions.proofs.MarkLemmas.{length-remarked, lines_in-remarked, live-unmarked, remarked-again}
use Rattle.roster_search_regions.proofs.RowLemmas.{lines_in-rows, readable-rows}
use Rattle.roster_search_regions.proofs.rows.Rows.of.Goals as goal

pub invariant_of-result : goal.invariant_of-result
invariant_of-result c =
    let same = to_z-of_z w64 c.cost.result (record { sfits = c.cost.type_inv }) in
    readable-rows c.args.scale _ c.args.marks.now c.rows.result.now c.args.lines.now c.rows.ensures.entries
    (c.cost.ensures ∙ ap Some (sym same)) c.rows.ensures.limits c.requires.counted c.requires.near

pub returns-clause-lines : goal.returns-clause-lines
returns-clause-lines c =
    let same = to_z-of_z w64 c.cost.result (record { sfits = c.cost.type_inv }) in
    lines_in-remarked c.args.marks.now c.args.scale _ c.rows.result.now
    ∙ ap (picked c.args.marks.now) (lines_in-rows c.args.scale _ c.rows.result.now c.args.lines.now c.rows.ensures.entries (c.cost.ensures ∙ ap Some (sym same)))

pub returns-clause-others : goal.returns-clause-others
returns-clause-others c others long =
    let same = to_z-of_z w64 c.cost.result (record { sfits = c.cost.type_inv }) in
    let choices = choices_of c.args.scale (to_z w64 (of_z w64 c.cost.result)) c.rows.result.now in
    ap lines_in
    (remarked-again others c.args.marks.now choices (long ∙ length-remarked c.args.marks.now choices))
    ∙ lines_in-remarked others c.args.scale _ c.rows.result.now
    ∙ ap (picked others) (lines_in-rows c.args.scale _ c.rows.result.now c.args.lines.now c.rows.ensures.entries (c.cost.ensures ∙ ap Some (sym same)))

pub returns-clause-live : goal.returns-clause-live
returns-clause-live c none = live-unmarked c.args.marks.now c.args.scale _ c.rows.result.now none
