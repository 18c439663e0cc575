use Rattle.std.proofs.Common.{◌≡◌, length, Some, refl, sym, ap, ◌∙◌, arith}
use Rattle.std.specs.Prelude.{slice_get}
use Rattle.std.proofs.lemmas.Option.{slice_get_read}
use Rattle.roster_lines_table.specs.Entries.{longer, set_at}
use Rattle.roster_lines_table.proofs.TreeLemmas.{length-entries_in, set_at_later}
use Rattle.roster_lines_table.proofs.lines.Lines.parent_and_last.Goals as goal

pub index-line-requires : goal.index-line-requires
index-line-requires c =
    let lines = c.self.inside.lines.items in
    let long : length c.args.self.now ≡ length lines =
    ap length (sym c.self.view_is) ∙ length-entries_in lines in
    let items = c.self.inside.lines.ok.0 in
    omega (arith, c.requires.inside)

there : (c : goal.After-from) → slice_get c.self.inside.lines.items c.args.i ≡ Some c.index-line.result.now
there c =
    let lines = c.self.inside.lines.items in
    let long : length c.args.self.now ≡ length lines =
    ap length (sym c.self.view_is) ∙ length-entries_in lines in
    slice_get_read lines (length lines) c.args.i c.index-line.result.now refl
    (omega (arith, c.requires.inside)) c.index-line.ensures

pub returns-clause-earlier : goal.returns-clause-earlier
returns-clause-earlier c =
    c.self.invariant.parents c.args.i c.index-line.result.now (there c) c.requires.later

pub returns-clause-set : goal.returns-clause-set
returns-clause-set c =
    let line = c.index-line.result.now in
    let before = c.self.invariant.parents c.args.i line (there c) c.requires.later in
    ap (λ entries. set_at entries c.args.i) (sym c.self.view_is)
    ∙ set_at_later c.self.inside.lines.items c.args.i line (there c) c.requires.later before
    ∙ ap (λ entries. longer entries line.parent line.last) c.self.view_is
    ∙ ap (longer c.args.self.now line.parent) (sym c.from.ensures)
