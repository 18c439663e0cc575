use Rattle.std.proofs.Common.{[], take, pos, sym, SFits, w64, to_z, of_z, subst, inl, inr, arith}
use Rattle.std.specs.Prelude.{All, ◌≤ℤ◌}
use Rattle.std.proofs.lemmas.Int.{ints, to_z-of_z}
use Rattle.std.proofs.lemmas.List.{take_all}
use Rattle.std.proofs.lemmas.List.Elements.{All-weaker}
use Rattle.roster_cost.specs.Amounts.{IsWithin}
use Rattle.roster_search_regions.specs.declared.choice.TheConstants.{MOST_VALUE}
use Rattle.roster_search_regions.specs.Prices.{value_of, AreSums}
use Rattle.roster_search_regions.specs.Trees.{lines_in, next_path, path_after}
use Rattle.roster_search_regions.proofs.TreeLemmas.{path_at, All-lines_at, All-lines_none}
use Rattle.roster_search_regions.proofs.tree.Tree.least.Goals as goal

pub loop-i-init : goal.loop-i-init
unfolding path_after
loop-i-init c = record {
  sums = c.new-sums.ensures c.args.prices.now;
  least = All-lines_none (λ line. pos MOST_VALUE ≤ℤ value_of c.args.prices.now line);
  bound = (omega (arith, ints), omega (arith, ints));
}

pub step-requires-clause-known : goal.step-requires-clause-known
step-requires-clause-known c =
    (path_after [] (take c.loop-i.i c.choices-choices.result), c.loop-i.invariant.sums)

pub value-requires-clause-known : goal.value-requires-clause-known
value-requires-clause-known c = (c.args.prices.now, _, c.requires, c.step.ensures _ c.loop-i.invariant.sums)

pub loop-i-preserved : goal.loop-i-preserved
loop-i-preserved c =
    let choices = c.choices-choices.result in
    let i = c.loop-i.i in
    let item = c.at-choice.result in
    let prices = c.args.prices.now in
    let next = next_path (path_after [] (take i choices)) item in
    let sums : AreSums prices c.step.new.self next =
    c.step.ensures (path_after [] (take i choices)) c.loop-i.invariant.sums in
    let bound : SFits w64 (to_z w64 c.loop-i.least-bits) =
    omega (arith, ints, c.loop-i.invariant.bound.0, c.loop-i.invariant.bound.1) in
    let low = to_z-of_z w64 (to_z w64 c.loop-i.least-bits) bound in
    let value = c.value.ensures.value prices next sums in
    let within : IsWithin MOST_VALUE c.lower-least.result = elim c.lower-least.ensures.either [
      | inl same ↦ (omega (arith, ints, same, low, c.loop-i.invariant.bound.0), omega (arith, ints, same, low, c.loop-i.invariant.bound.1))
      | inr same ↦ (omega (arith, ints, same, c.value.ensures.bound.0), omega (arith, ints, same, c.value.ensures.bound.1))
    ] in
    let fits : SFits w64 c.lower-least.result = omega (arith, ints, within.0, within.1) in
    let new = to_z-of_z w64 c.lower-least.result fits in
    record {
      sums =
          subst (AreSums prices c.step.new.self)
          (sym (path_at choices i item c.at-choice.ensures.value)) sums;
      least = All-lines_at (λ line. to_z w64 (of_z w64 c.lower-least.result) ≤ℤ value_of prices line) choices i item c.at-choice.ensures.value
          (All-weaker (λ line. to_z w64 c.loop-i.least-bits ≤ℤ value_of prices line) (λ line. to_z w64 (of_z w64 c.lower-least.result) ≤ℤ value_of prices line) (λ line h. omega (arith, ints, h, low, new, c.lower-least.ensures.kept)) _ c.loop-i.invariant.least)
          (λ live. omega (arith, ints, c.lower-least.ensures.below live, value, new));
      bound = (omega (arith, ints, new, within.0), omega (arith, ints, new, within.1));
    }

pub returns-clause-least : goal.returns-clause-least
returns-clause-least c =
    let prices = c.args.prices.now in
    let low = to_z w64 c.loop-i.least-bits in
    let all =
    take_all c.loop-i.i c.choices-choices.result
    (omega (arith, c.loop-i-test.false, c.len-i-end.ensures)) in
    subst (All (λ line. low ≤ℤ value_of prices line)) c.choices-choices.ensures
    (subst (λ cs. All (λ line. low ≤ℤ value_of prices line) (lines_in cs)) all c.loop-i.invariant.least)

pub returns-clause-bound : goal.returns-clause-bound
returns-clause-bound c = c.loop-i.invariant.bound
