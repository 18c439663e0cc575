use Rattle.std.proofs.Common.{◌≡◌, length, Some, SFits, w64, refl, sym, ap, ◌∙◌, arith, rules}
use Rattle.std.specs.Prelude.{slice_get}
use Rattle.std.proofs.lemmas.Int.{to_z-of_z}
use Rattle.std.proofs.lemmas.Option.{slice_get_read}
use Rattle.roster_lines_table.specs.Entries.{costs_of}
use Rattle.roster_lines_table.proofs.TreeLemmas.{cost_in, length-entries_in}
use Rattle.roster_lines_table.proofs.lines.Lines.cost.Goals as goal

pub index-requires : goal.index-requires
index-requires c =
    let lines = c.self.inside.lines.items in
    let long : length c.args.self.now ≡ length lines =
    ap length (sym c.self.view_is) ∙ length-entries_in lines in
    let items = c.self.inside.lines.ok.0 in
    omega (arith, c.requires)

pub returns : goal.returns
returns c =
    let lines = c.self.inside.lines.items in
    let i = c.args.i in
    let line = c.index.result.now in
    let long : length c.args.self.now ≡ length lines =
    ap length (sym c.self.view_is) ∙ length-entries_in lines in
    let there = slice_get_read lines (length lines) i line refl (omega (arith, c.requires)) c.index.ensures in
    let fits : SFits w64 line.cost = search rules in
    ap (λ entries. slice_get (costs_of entries) i) (sym c.self.view_is) ∙ cost_in lines i line there
    ∙ ap Some (sym (to_z-of_z w64 line.cost fits))
