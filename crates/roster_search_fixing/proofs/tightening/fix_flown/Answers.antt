use Rattle.std.proofs.Common.{w64, arith}
use Rattle.std.proofs.lemmas.Int.{ints, to_z-of_z}
use Rattle.roster_model.specs.Places.{open_number}
use Rattle.roster_search_regions.specs.Regions.{HasNot}
use Rattle.roster_search_fixing.specs.Bounds.{CostsAtMost}
use Rattle.roster_search_fixing.proofs.Fixing.{flown_within}
use Rattle.roster_search_fixing.proofs.Narrowing.{narrowed_by_more}
use Rattle.roster_search_fixing.proofs.tightening.fix_flown.Goals as goal

pub returns-then-cost_of_open-cut : goal.returns-then-cost_of_open-cut
returns-then-cost_of_open-cut c =
    let problem = c.args.problem.now in
    let same = to_z-of_z w64 c.args.cut c.ranges.cut in
    let paid = to_z-of_z w64 c.args.paid c.ranges.paid in
    narrowed_by_more problem (HasNot (open_number problem) c.args.p)
    (CostsAtMost problem c.args.most) c.args.region.now c.fly.new.self c.fly.ensures.narrowed
    (flown_within problem c.args.region.now c.args.prices.now c.args.paid c.args.p c.args.most c.args.cut c.requires.within
    (omega (arith, ints, same, paid, c.if-cost_of_open-cut.true, c.cost_of_open.ensures.value, c.cost_of_open.ensures.bound.0, c.cost_of_open.ensures.bound.1)))
