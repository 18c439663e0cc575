use Rattle.std.proofs.Common.{◌≡◌, get_or, ℤ, pos, ◌-ℤ◌, SFits, w64, ap, ◌∙◌, arith}
use Rattle.std.proofs.lemmas.Int.{ints, to_z-of_z}
use Rattle.std.proofs.lemmas.List.{take_all}
use Rattle.roster_model.specs.Costs.{total}
use Rattle.roster_search_regions.specs.Prices.{price_at}
use Rattle.roster_search_regions.proofs.SumLemmas.{sum-within}
use Rattle.roster_search_regions.proofs.sums.Sums.value.Goals as goal

pub overflow_sub-result : goal.overflow_sub-result
overflow_sub-result c =
    let known = c.requires.known in
    let sum =
    sum-within known.0 c.args.self.now known.1 c.args.self.now.length known.2 known.3
    (omega (arith, known.3.whole)) in
    let extra = c.requires.limited.extra in
    let fits : SFits w64 (get_or c.args.self.now.sums c.args.self.now.length (pos 0)) =
    omega (arith, ints, sum.0, sum.1) in
    let fits' : SFits w64 c.args.choice.now.extra = omega (arith, ints, extra.0, extra.1) in
    simp to_z-of_z (omega (arith, ints, sum.0, sum.1, extra.0, extra.1))

pub returns-clause-value : goal.returns-clause-value
returns-clause-value c prices path are =
    let known = c.requires.known in
    let sum =
    sum-within known.0 c.args.self.now known.1 c.args.self.now.length known.2 known.3
    (omega (arith, known.3.whole)) in
    let extra = c.requires.limited.extra in
    let fits : SFits w64 (get_or c.args.self.now.sums c.args.self.now.length (pos 0)) =
    omega (arith, ints, sum.0, sum.1) in
    let fits' : SFits w64 c.args.choice.now.extra = omega (arith, ints, extra.0, extra.1) in
    let both : SFits w64
    (c.args.choice.now.extra -ℤ get_or c.args.self.now.sums c.args.self.now.length (pos 0)) =
    omega (arith, ints, sum.0, sum.1, extra.0, extra.1) in
    let is : get_or c.args.self.now.sums c.args.self.now.length (pos 0) ≡ total (price_at prices) path =
    are.each c.args.self.now.length (omega (arith, are.whole))
    ∙ ap (total (price_at prices)) (take_all c.args.self.now.length path (omega (arith, are.whole))) in
    simp to_z-of_z (ap (λ (y : ℤ). c.args.choice.now.extra -ℤ y) is)

pub returns-clause-bound : goal.returns-clause-bound
returns-clause-bound c =
    let known = c.requires.known in
    let sum =
    sum-within known.0 c.args.self.now known.1 c.args.self.now.length known.2 known.3
    (omega (arith, known.3.whole)) in
    let extra = c.requires.limited.extra in
    let fits : SFits w64 (get_or c.args.self.now.sums c.args.self.now.length (pos 0)) =
    omega (arith, ints, sum.0, sum.1) in
    let fits' : SFits w64 c.args.choice.now.extra = omega (arith, ints, extra.0, extra.1) in
    let both : SFits w64
    (c.args.choice.now.extra -ℤ get_or c.args.self.now.sums c.args.self.now.length (pos 0)) =
    omega (arith, ints, sum.0, sum.1, extra.0, extra.1) in
    simp to_z-of_z
    (omega (arith, ints, sum.0, sum.1, extra.0, extra.1), omega (arith, ints, sum.0, sum.1, extra.0, extra.1))
