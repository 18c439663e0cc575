use Rattle.std.proofs.Common.{◌≡◌, [], ◌++◌, length, Some, refl, sym, ap, subst, ◌∙◌, arith, append-nil}
use Rattle.std.specs.Prelude.{IsOkAnd}
use Rattle.std.proofs.lemmas.Option.{slice_get_read}
use Rattle.roster_values.specs.Set.{with_place}
use Rattle.roster_lines_table.specs.Entries.{set_at}
use Rattle.roster_lines_table.specs.Tree.{entries_in}
use Rattle.roster_lines_table.proofs.TreeLemmas.{length-entries_in, set_at_first, set_at_get}
use Rattle.roster_lines_table.proofs.Walk.{last_below, walked}
use Rattle.roster_lines_table.proofs.lines.Lines.set.Goals as goal

pub loop-at-init : goal.loop-at-init
loop-at-init c =
    let lines = c.self.inside.lines.items in
    let long : length c.args.self.now ≡ length lines =
    ap length (sym c.self.view_is) ∙ length-entries_in lines in
    record {
      inside = omega (arith, c.requires);
      set = sym (ap (λ s. set_at (entries_in lines) c.args.i ++ s) c.empty-set.ensures ∙ append-nil _);
    }

pub with-requires : goal.with-requires
with-requires c =
    let lines = c.self.inside.lines.items in
    let there = slice_get_read lines (length lines) c.loop-at.at c.index-line.result.now refl c.loop-at.invariant.inside c.index-line.ensures in
    let below =
    last_below lines c.self.invariant c.loop-at.at c.index-line.result.now there c.loop-at-test.true in
    omega (arith, c.from.ensures)

pub loop-at-smaller : goal.loop-at-smaller
loop-at-smaller c =
    let lines = c.self.inside.lines.items in
    let there = slice_get_read lines (length lines) c.loop-at.at c.index-line.result.now refl c.loop-at.invariant.inside c.index-line.ensures in
    c.self.invariant.parents c.loop-at.at c.index-line.result.now there c.loop-at-test.true

pub loop-at-preserved : goal.loop-at-preserved
loop-at-preserved c =
    let lines = c.self.inside.lines.items in
    let line = c.index-line.result.now in
    let there =
    slice_get_read lines
    (length lines) c.loop-at.at line refl c.loop-at.invariant.inside c.index-line.ensures in
    let before = c.self.invariant.parents c.loop-at.at line there c.loop-at-test.true in
    let inside = c.loop-at.invariant.inside in
    let long : length c.args.self.now ≡ length lines =
    ap length (sym c.self.view_is) ∙ length-entries_in lines in
    let put : c.unwrap-set.result ≡ with_place line.last c.loop-at.set = subst (λ r. IsOkAnd r (λ s. s ≡ with_place c.from.result c.loop-at.set)) c.unwrap-set.ensures c.with.ensures.value ∙ ap (λ p. with_place p c.loop-at.set) c.from.ensures in
    record {
      inside = omega arith;
      set = walked lines c.self.invariant c.loop-at.at line there c.loop-at-test.true c.args.i c.loop-at.set c.unwrap-set.result (omega (arith, c.requires)) c.loop-at.invariant.set put;
    }

pub returns : goal.returns
returns c =
    let lines = c.self.inside.lines.items in
    let first : c.loop-at.at ≡ 0 = omega (arith, c.loop-at-test.false) in
    let empty : set_at (entries_in lines) c.loop-at.at ≡ [] =
    ap (set_at (entries_in lines)) first ∙ set_at_first lines in
    let set = c.loop-at.invariant.set ∙ ap (λ front. front ++ c.loop-at.set) empty in
    set_at_get c.args.self.now c.args.i c.requires
    ∙ ap Some (ap (λ entries. set_at entries c.args.i) (sym c.self.view_is) ∙ set)
