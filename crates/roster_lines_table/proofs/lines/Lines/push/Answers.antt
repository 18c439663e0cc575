use Rattle.std.proofs.Common.{◌≡◌, ◌+◌, ◌<◌, ◌≤◌, false, [], ◌∷◌, ◌++◌, length, w64, refl, sym, ap, subst, ◌∙◌, arith}
use Rattle.std.specs.Prelude.{All}
use Rattle.std.proofs.lemmas.Int.{to_z-of_z}
use Rattle.std.proofs.lemmas.Option.{slice_get_read}
use Rattle.roster_model.specs.Places.{places_le}
use Rattle.roster_model.specs.declared.limits.TheConstants.{MOST_PAIRINGS}
use Rattle.roster_lines_table.specs.Entries.{entry_of, longer, set_at, sets_of}
use Rattle.roster_lines_table.specs.Tree.{entries_in, IsTree}
use Rattle.roster_lines_table.proofs.TreeLemmas.{depth_below, entries_in-push, IsTree-push, length-entries_in}
use Rattle.roster_lines_table.proofs.lines.Lines.push.Goals.{After-index}
use Rattle.roster_lines_table.proofs.lines.Lines.push.Goals as goal

pub index-requires : goal.index-requires
index-requires c =
    let lines = c.self.inside.lines.items in
    let long : length c.args.self.now ≡ length lines =
    ap length (sym c.self.view_is) ∙ length-entries_in lines in
    let items = c.self.inside.lines.ok.0 in
    omega (arith, c.requires.parent)

-- the parent's set is as long as its depth says, and there is room for one more
deep : (c : After-index) → (c.index.result.now.depth ≡ length (set_at (entries_in c.self.inside.lines.items) c.args.parent)) × (c.index.result.now.depth + 1 ≤ MOST_PAIRINGS)
deep c =
    let lines = c.self.inside.lines.items in
    let parent = c.args.parent in
    let view = sym c.self.view_is in
    let long : length c.args.self.now ≡ length lines = ap length view ∙ length-entries_in lines in
    let there =
    slice_get_read lines (length lines) parent c.index.result.now refl
    (omega (arith, c.requires.parent)) c.index.ensures in
    let later = subst (λ entries. All (λ p. p < c.args.last) (set_at entries parent)) view c.requires.later in
    (c.self.invariant.depths parent c.index.result.now there, depth_below lines c.self.invariant parent c.index.result.now c.args.last there c.requires.last later)

pub overflow_add-depth : goal.overflow_add-depth
overflow_add-depth c = let room = (deep c).1 in omega arith

pub invariant_of-self-2 : goal.invariant_of-self-2
invariant_of-self-2 c =
    let lines = c.self.inside.lines.items in
    let parent = c.args.parent in
    let last = c.args.last in
    let view = sym c.self.view_is in
    let long : length c.args.self.now ≡ length lines = ap length view ∙ length-entries_in lines in
    let later = subst (λ entries. All (λ p. p < last) (set_at entries parent)) view c.requires.later in
    let ordered = subst (λ entries. All (λ set. places_le (longer entries parent last) set ≡ false) (sets_of entries)) view c.requires.ordered in
    let deep = deep (goal.at.invariant_of-self-2 c).After-index in
    subst IsTree (sym c.in_ok-push.ensures.items) (IsTree-push lines _ c.self.invariant (ap (λ n. n + 1) deep.0) deep.1 (omega (arith, c.requires.room)) (omega (arith, c.requires.parent)) c.requires.last later ordered)

pub returns : goal.returns
returns c =
    let lines = c.self.inside.lines.items in
    let parent = c.args.parent in
    let last = c.args.last in
    let long : length c.args.self.now ≡ length lines =
    ap length (sym c.self.view_is) ∙ length-entries_in lines in
    ap entries_in c.in_ok-push.ensures.items
    ∙ entries_in-push lines _ (omega (arith, c.requires.parent))
    ∙ ap (λ cost. entries_in lines ++ entry_of (longer (entries_in lines) parent last) cost ∷ []) (to_z-of_z w64 c.args.cost c.ranges.cost)
    ∙ ap (λ entries. entries ++ entry_of (longer entries parent last) c.args.cost ∷ []) c.self.view_is
