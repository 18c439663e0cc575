use Rattle.std.proofs.Common.{◌≡◌, ◌<◌, [], length, get_or, ℤ, pos, ◌≤ℤ◌, ap, sym, ◌∙◌, subst, inl, inr, arith}
use Rattle.std.proofs.lemmas.Bool.{cases_lt}
use Rattle.std.proofs.lemmas.Int.{ints}
use Rattle.std.proofs.lemmas.List.{get_or_default}
use Rattle.roster_cost.specs.Priced.{reduced_cost}
use Rattle.roster_lines_table.specs.Person.{lines_at}
use Rattle.roster_lines_table.proofs.Lists.{IsLine-empty}
use Rattle.roster_bounds.specs.Amounts.{AreReduced, most_prices}
use Rattle.roster_cost.specs.Amounts.{IsWithin}
use Rattle.roster_bounds.specs.Chosen.{line_set, price_at}
use Rattle.roster_bounds.proofs.PricedLines.{line_is, line_set-at, number_of_line, prices_of_line, same_prices, same_word128}
use Rattle.roster_bounds.proofs.reduced.least_reduced.Goals as goal

pub reduced_by-requires-clause-sum : goal.reduced_by-requires-clause-sum
reduced_by-requires-clause-sum c =
    let problem = c.args.problem.now in
    let i = c.loop-i.i in
    let sums = c.in_ok-sums.sums.items in
    let inside : i < length (lines_at c.args.table.now c.args.k) =
    omega (arith, c.loop-i-test.true, c.width-i-end.ensures) in
    let line = line_is problem c.args.table.now c.args.k i c.requires.priced.lines c.requires.person inside in
    let read : c.index.result.now ≡ get_or sums i (pos 0) = c.index.ensures ∙ get_or_default sums i c.index.result.now (pos 0) (omega (arith, inside, c.in_ok-sums.ensures.covers)) in
    let told = read ∙ c.in_ok-sums.ensures.each i inside in
    let within = subst (IsWithin most_prices) (sym told) (prices_of_line problem c.args.prices.now c.args.k (line_set c.args.table.now c.args.k i) c.pairings.ensures.sound c.len.ensures.within line) in
    same_prices c.index.result.now within ∙ told

pub loop-i-preserved : goal.loop-i-preserved
loop-i-preserved c =
    let back = same_word128 c.lesser-least.result c.lesser-least.type_inv in
    let other = same_word128 c.reduced_by.result c.reduced_by.type_inv in
    let first = c.lesser-least.ensures.first in
    let second = subst (λ (z : ℤ). c.lesser-least.result ≤ℤ z) other c.lesser-least.ensures.second in
    let price = price_at c.args.prices.now in
    record {
      below = λ j set less at. subst (λ (z : ℤ). z ≤ℤ reduced_cost c.args.problem.now price c.args.k set) (sym back) (elim (cases_lt j c.loop-i.i) [
        | inl before ↦ let low = c.loop-i.invariant.below j set before at in omega (arith, ints, first, low)
        | inr on ↦
            let here : j ≡ c.loop-i.i = omega arith in
            let same =
            ap (line_set c.args.table.now c.args.k) (sym here)
            ∙ line_set-at c.args.table.now c.args.k j set at in
            subst (λ (z : ℤ). c.lesser-least.result ≤ℤ z)
            (c.reduced_by.ensures.value ∙ ap (reduced_cost c.args.problem.now price c.args.k) same) second
      ]);
      bound = subst (AreReduced 1) (sym back) (elim c.lesser-least.ensures.one [
        | inl is ↦ subst (AreReduced 1) (sym is) c.loop-i.invariant.bound
        | inr is ↦ subst (AreReduced 1) (sym (is ∙ other)) c.reduced_by.ensures.bound
      ]);
      none = λ no. absurd (omega (arith, no));
      one = λ some.
          let problem = c.args.problem.now in
          let k = c.args.k in
          let set = line_set c.args.table.now k c.loop-i.i in
          let inside : c.loop-i.i < length (lines_at c.args.table.now k) =
          omega (arith, c.loop-i-test.true, c.width-i-end.ensures) in
          let line = line_is problem c.args.table.now k c.loop-i.i c.requires.priced.lines c.requires.person inside in
          let value = c.reduced_by.ensures.value in
          elim c.lesser-least.ensures.one [
            | inl is ↦ elim (cases_lt 0 c.loop-i.i) [
              | inl before ↦
                  let had = c.loop-i.invariant.one before in
                  (had.0, had.1, back ∙ is ∙ had.2)
              | inr on ↦
                  let high = c.loop-i.invariant.none (omega (arith, on)) in
                  let most = c.reduced_by.ensures.bound.most in
                  (set, line, back ∙ omega (arith, ints, is, high, most, second) ∙ value)
            ]
            | inr is ↦ (set, line, back ∙ is ∙ other ∙ value)
          ];
    }

pub returns-clause-least : goal.returns-clause-least
returns-clause-least c =
    let problem = c.args.problem.now in
    let table = c.args.table.now in
    let k = c.args.k in
    let lines = c.requires.priced.lines in
    let count = c.width-i-end.ensures in
    let none = number_of_line problem table k [] lines c.requires.person (IsLine-empty problem k) in
    let found = c.loop-i.invariant.one (omega (arith, none.1, count)) in
    record {
      below = λ set line.
          let at = number_of_line problem table k set lines c.requires.person line in
          c.loop-i.invariant.below at.0 set (omega (arith, at.1, count)) at.2;
      set = found.0;
      line = found.1;
      has = found.2;
    }
