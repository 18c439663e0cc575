use Rattle.std.proofs.Common.{◌≡◌, ◌<◌, ℕ, length, ℤ, ◌≤ℤ◌, sym, ap, ◌∙◌, subst, inl, inr, arith}
use Rattle.std.proofs.lemmas.Bool.{cases_lt}
use Rattle.std.proofs.lemmas.Int.{ints}
use Rattle.roster_lines_table.specs.Person.{lines_at, IsTableOf}
use Rattle.roster_bounds.specs.Amounts.{AreReduced}
use Rattle.roster_bounds.specs.Chosen.{line_set, reduced_at, ChosenLines, Meets}
use Rattle.roster_bounds.proofs.PricedLines.{line_set-at, number_of_line, same_word128}
use Rattle.roster_bounds.proofs.node.Node.next_bound.Goals as goal

pub loop-i-preserved : goal.loop-i-preserved
loop-i-preserved c =
    let tables = c.args.self.now.tables in
    let lines = c.args.self.now.lines in
    let k : ℕ = length lines in
    let back = same_word128 c.lesser-least.result c.lesser-least.type_inv in
    let other = same_word128 c.reduced_if_apart.result c.reduced_if_apart.type_inv in
    let first = c.lesser-least.ensures.first in
    let second = subst (λ (z : ℤ). c.lesser-least.result ≤ℤ z) other c.lesser-least.ensures.second in
    record {
      below = λ j set less at apart. subst (λ (z : ℤ). z ≤ℤ reduced_at tables k set) (sym back) (elim (cases_lt j c.loop-i.i) [
        | inl before ↦ let low = c.loop-i.invariant.below j set before at apart in omega (arith, ints, first, low)
        | inr on ↦
            let here : j ≡ c.loop-i.i = omega arith in
            let same = ap (line_set tables.table k) (sym here) ∙ line_set-at tables.table k j set at in
            let mine = subst (λ xs. Meets tables.table lines xs → ⊥) (sym same) apart in
            let low =
            subst (λ xs. c.reduced_if_apart.result ≤ℤ reduced_at tables k xs) same
            (c.reduced_if_apart.ensures.below mine) in
            omega (arith, ints, second, low)
      ]);
      fits = subst (AreReduced 1) (sym back) (elim c.lesser-least.ensures.one [
        | inl is ↦ subst (AreReduced 1) (sym is) c.loop-i.invariant.fits
        | inr is ↦ subst (AreReduced 1) (sym (is ∙ other)) c.reduced_if_apart.ensures.fits
      ]);
    }

pub returns-clause-below : goal.returns-clause-below
returns-clause-below c set line apart =
    let tables = c.args.self.now.tables in
    let inside = c.self.inside in
    let items = inside.lines.ok.0 in
    let count : c.len.result ≡ length inside.lines.items = omega (arith, c.len.ensures, items) in
    let is = subst (λ (n : ChosenLines). IsTableOf n.tables.problem n.tables.table) c.self.view_is c.width-i-end.ensures.lines in
    let found =
    number_of_line tables.problem tables.table (length c.args.self.now.lines) set is c.requires line in
    let width =
    c.width-i-end.ensures.value ∙ ap (λ k. length (lines_at inside.tables.now.table k)) count
    ∙ ap (λ (n : ChosenLines). length (lines_at n.tables.table (length n.lines))) c.self.view_is in
    let all : found.0 < c.loop-i.i = omega (arith, found.1, width, c.loop-i-test.false) in
    c.loop-i.invariant.below found.0 set all found.2 apart
