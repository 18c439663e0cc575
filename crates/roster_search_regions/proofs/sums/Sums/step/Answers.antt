use Rattle.std.proofs.Common.{◌≡◌, ◌-◌, ◌≤◌, length, get_or, take, ℤ, pos, ◌+ℤ◌, SFits, w64, sym, ap, ◌∙◌, arith}
use Rattle.std.proofs.lemmas.Int.{ints, to_z-of_z}
use Rattle.std.proofs.lemmas.List.{take_all}
use Rattle.roster_search_regions.specs.Prices.{price_at}
use Rattle.roster_search_regions.proofs.SumLemmas.{AreSums-step, price-within, sum-within}
use Rattle.roster_search_regions.proofs.TreeLemmas.{next_path-deep}
use Rattle.roster_search_regions.proofs.sums.Sums.step.Goals as goal
use Rattle.roster_search_regions.proofs.sums.Sums.step.Goals.{then-self-at, else-self-at}

pub overflow_add-self : goal.overflow_add-self
overflow_add-self c =
    let path = c.requires.known.0 in
    let known = c.requires.known.1 in
    let low : c.if-self-at.at ≤ length path = elim c.if-self-at.branch [ then-self-at w ↦ omega (arith, known.whole) | else-self-at w ↦ omega (arith, known.whole) ] in
    let sum = sum-within c.args.prices.now c.args.self.now path c.if-self-at.at c.requires.prices known low in
    let price = price-within c.args.prices.now c.args.choice.now.last c.requires.prices in
    let fits : SFits w64 (get_or c.args.self.now.sums c.if-self-at.at (pos 0)) =
    omega (arith, ints, sum.0, sum.1) in
    let fits' : SFits w64 c.price_of.result =
    omega (arith, ints, c.price_of.ensures.bound.0, c.price_of.ensures.bound.1) in
    simp to_z-of_z (omega (arith, ints, sum.0, sum.1, c.price_of.ensures.bound.0, c.price_of.ensures.bound.1))

pub returns : goal.returns
returns c path known =
    let at = c.if-self-at.at in
    let whole = known.whole in
    let low : at ≤ length path = elim c.if-self-at.branch [ then-self-at w ↦ omega (arith, known.whole) | else-self-at w ↦ omega (arith, known.whole) ] in
    let cut : take (c.args.choice.now.depth - 1) path ≡ take at path =
    elim c.if-self-at.branch as (λ _. take (c.args.choice.now.depth - 1) path ≡ take at path) [
      | then-self-at w ↦
          take_all (c.args.choice.now.depth - 1) path (omega (arith, known.whole))
          ∙ sym (take_all at path (omega (arith, known.whole)))
      | else-self-at w ↦
          let here : c.args.choice.now.depth - 1 ≡ at = omega arith in
          ap (λ n. take n path) here
    ] in
    let sum = sum-within c.args.prices.now c.args.self.now path at c.requires.prices known low in
    let price = price-within c.args.prices.now c.args.choice.now.last c.requires.prices in
    let fits : SFits w64 (get_or c.args.self.now.sums at (pos 0)) = omega (arith, ints, sum.0, sum.1) in
    let fits' : SFits w64 c.price_of.result =
    omega (arith, ints, c.price_of.ensures.bound.0, c.price_of.ensures.bound.1) in
    let both : SFits w64 (get_or c.args.self.now.sums at (pos 0) +ℤ c.price_of.result) =
    omega (arith, ints, sum.0, sum.1, c.price_of.ensures.bound.0, c.price_of.ensures.bound.1) in
    let value = c.price_of.ensures.value ∙ ap (price_at c.args.prices.now) c.from.ensures in
    simp to_z-of_z
    (rw (next_path-deep path c.args.choice.now (omega arith), cut)
    (AreSums-step c.args.prices.now c.args.self.now path c.args.choice.now.last at (get_or c.args.self.now.sums at (pos 0) +ℤ c.price_of.result) known low
    (omega (arith, c.requires.limited.depth, known.few)) (omega arith)
    (ap (λ (y : ℤ). get_or c.args.self.now.sums at (pos 0) +ℤ y) value)))
