use Rattle.std.proofs.Common.{◌≡◌, ◌<◌, ◌∷◌, ◌++◌, ◌||◌, [], ℕ, List, length, ℤ, ◌+ℤ◌, ◌≤◌, to_z, of_z, sym, ap, ◌∙◌, subst, arith}
use Rattle.roster_model.specs.Rules.{is_among}
use Rattle.roster_lines_table.specs.Person.{lines_at}
use Rattle.roster_bounds.specs.Chosen.{line_set, reduced_at, ChosenLines, IsNode, Meets}
use Rattle.std.specs.Int.{w128}
use Rattle.roster_model.specs.Problem.{Problem}
use Rattle.roster_model.specs.declared.limits.TheConstants.{MOST_PERSONS}
use Rattle.roster_bounds.proofs.PricedLines.{same_sum}
use Rattle.roster_bounds.proofs.Placing.{IsNode-append}
use Rattle.roster_bounds.proofs.node.Node.one_line_more.Goals as goal

pub invariant_of-result : goal.invariant_of-result
invariant_of-result c =
    let inside = c.self.inside in
    let tables = inside.tables.now in
    let lines = inside.lines.items in
    let is = c.self.invariant in
    let back = sym c.self.view_is in
    let person =
    subst
    (λ (n : ChosenLines). length n.lines < length n.tables.problem.persons) back c.requires.person in
    let line = subst (λ (n : ChosenLines). c.args.i < length (lines_at n.tables.table (length n.lines))) back c.requires.line in
    let apart = subst (λ (n : ChosenLines). Meets n.tables.table n.lines (line_set n.tables.table (length n.lines) c.args.i) → ⊥) back c.requires.apart in
    let items = inside.lines.ok.0 in
    let count : c.len-k.result ≡ length lines = omega (arith, c.len-k.ensures, items) in
    let more : c.in_ok-lines.lines.items ≡ lines ++ c.args.i ∷ [] =
    c.in_ok-lines.ensures ∙ ap (λ (xs : List ℕ). xs ++ c.args.i ∷ []) c.deref.ensures.value in
    let set : c.set.result ≡ line_set tables.table (length lines) c.args.i =
    c.set.ensures.value ∙ ap (λ n. line_set tables.table n c.args.i) count in
    let step : c.reduced.result
    ≡ reduced_at tables (length lines) (line_set tables.table (length lines) c.args.i) =
    c.reduced.ensures.value ∙ ap (λ n. reduced_at tables n (line_set tables.table n c.args.i)) count in
    let few : length lines ≤ MOST_PERSONS = omega (arith, is.apart.persons, c.persons.ensures.sound.persons, ap (λ (problem : Problem). length problem.persons) c.problem.ensures) in
    let sum = same_sum inside.reduced c.reduced.result (length lines) few is.fits c.reduced.ensures.fits in
    let all : ℤ =
    to_z w128
    (of_z w128 (to_z w128 (of_z w128 inside.reduced) +ℤ to_z w128 (of_z w128 c.reduced.result))) in
    let has : (p : ℕ) → is_among c.both.result p ≡ (is_among inside.placed p || is_among (line_set tables.table (length lines) c.args.i) p) = λ p. c.both.ensures p ∙ ap (λ (xs : List ℕ). is_among inside.placed p || is_among xs p) set in
    subst (λ (xs : List ℕ). IsNode tables xs c.both.result all) (sym more)
    (IsNode-append tables lines c.args.i inside.placed c.both.result inside.reduced c.reduced.result all is person line apart has step c.reduced.ensures.fits sum)
