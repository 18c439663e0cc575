use Rattle.std.proofs.Common.{◌≡◌, ◌<◌, [], ◌∷◌, length, get_or, pos, w64, ap, sym, ◌∙◌, subst, arith}
use Rattle.std.specs.Prelude.{All, FitsSigned}
use Rattle.std.proofs.lemmas.Int.{ints, to_z-of_z}
use Rattle.roster_model.specs.Costs.{total}
use Rattle.roster_model.proofs.CostLemmas.{total-nil, total-cons, total-append}
use Rattle.roster_cost.specs.Amounts.{IsWithin}
use Rattle.roster_lines_table.specs.Entries.{longer, set_at}
use Rattle.roster_lines_table.specs.Person.{lines_at}
use Rattle.roster_bounds.specs.Amounts.{most_prices}
use Rattle.roster_bounds.specs.Chosen.{line_set, price_at}
use Rattle.roster_bounds.proofs.PricedLines.{last_within, line_is, line_set-at, prices_of_line}
use Rattle.roster_bounds.proofs.reduced.price_sum.Goals as goal

pub sum-requires : goal.sum-requires
sum-requires c =
    let table = c.args.table.now in
    let k = c.args.k in
    let line = line_is c.args.problem.now table k c.args.i c.requires.priced.lines c.requires.person c.requires.line in
    let here = line_set-at table k c.args.i c.set.result c.set.ensures in
    subst (λ n. All (λ p. p < n) c.set.result) (sym c.requires.priced.covers)
    (subst (All (λ p. p < length c.args.problem.now.pairings)) here line.places)

pub returns-then-i-eq0 : goal.returns-then-i-eq0
returns-then-i-eq0 c =
    let fits : FitsSigned w64 c.sum.result = record { sfits = c.sum.type_inv } in
    to_z-of_z w64 c.sum.result fits ∙ c.sum.ensures.value ∙ ap (total (price_at c.args.prices.now)) (sym (line_set-at c.args.table.now c.args.k c.args.i c.set.result c.set.ensures))

-- the line is its parent's with one more pairing
more : (c : goal.After-at) → line_set c.args.table.now c.args.k c.args.i ≡ longer (lines_at c.args.table.now c.args.k) c.parent_and_last-parent.result.0 c.parent_and_last-parent.result.1
more c =
    let lines = c.lines.ensures in
    ap (λ entries. set_at entries c.args.i) (sym lines) ∙ c.parent_and_last-parent.ensures.set
    ∙ ap (λ entries. longer entries c.parent_and_last-parent.result.0 c.parent_and_last-parent.result.1) lines

pub at-requires : goal.at-requires
at-requires c =
    let lines = c.lines.ensures in
    let parent = c.parent_and_last-parent.result.0 in
    let last = c.parent_and_last-parent.result.1 in
    let line = line_is c.args.problem.now c.args.table.now c.args.k c.args.i c.requires.priced.lines c.requires.person c.requires.line in
    let here = ap (λ entries. set_at entries c.args.i) (sym lines) ∙ c.parent_and_last-parent.ensures.set in
    let place =
    last_within (set_at c.lines.result.now parent) (line_set c.args.table.now c.args.k c.args.i) last
    (length c.args.problem.now.pairings) here line.places in
    omega (arith, place, c.requires.priced.covers)

before : (c : goal.After-at) → get_or c.args.sums.now c.parent_and_last-parent.result.0 (pos 0) ≡ total (price_at c.args.prices.now) (line_set c.args.table.now c.args.k c.parent_and_last-parent.result.0)
before c = c.requires.sums.each c.parent_and_last-parent.result.0 c.parent_and_last-parent.ensures.earlier

before_within : (c : goal.After-at)
    → IsWithin most_prices (get_or c.args.sums.now c.parent_and_last-parent.result.0 (pos 0))
before_within c =
    let parent = c.parent_and_last-parent.result.0 in
    let earlier = c.parent_and_last-parent.ensures.earlier in
    let line =
    line_is c.args.problem.now c.args.table.now c.args.k parent c.requires.priced.lines c.requires.person
    (omega (arith, earlier, c.requires.line)) in
    subst (IsWithin most_prices) (sym (before c)) (prices_of_line c.args.problem.now c.args.prices.now c.args.k _ c.pairings.ensures.sound c.len.ensures.within line)

pub overflow_add-result : goal.overflow_add-result
overflow_add-result c =
    let within = before_within c in
    let price = c.at.ensures.bound in
    omega (arith, ints, within.0, within.1, price.0, price.1)

pub returns : goal.returns
returns c =
    let within = before_within c in
    let price = c.at.ensures.bound in
    let prices = price_at c.args.prices.now in
    let parent = line_set c.args.table.now c.args.k c.parent_and_last-parent.result.0 in
    let last = c.parent_and_last-parent.result.1 in
    omega (arith, ints, within.0, within.1, price.0, price.1, before c, c.at.ensures.value, ap (total prices) (more c), total-append prices parent (last ∷ []), total-cons prices last [], total-nil prices)
