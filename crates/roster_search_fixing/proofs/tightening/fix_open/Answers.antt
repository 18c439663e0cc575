use Rattle.std.proofs.Common.{w64, arith}
use Rattle.std.proofs.lemmas.Int.{ints, to_z-of_z}
use Rattle.roster_model.specs.Places.{open_number}
use Rattle.roster_search_regions.specs.Regions.{Has}
use Rattle.roster_search_fixing.specs.Bounds.{CostsAtMost}
use Rattle.roster_search_fixing.proofs.Fixing.{open_within}
use Rattle.roster_search_fixing.proofs.Narrowing.{narrowed_by_more}
use Rattle.roster_search_fixing.proofs.tightening.fix_open.Goals as goal

pub returns-then-price_of-cut : goal.returns-then-price_of-cut
returns-then-price_of-cut c =
    let problem = c.args.problem.now in
    let same = to_z-of_z w64 c.args.cut c.ranges.cut in
    narrowed_by_more problem (Has (open_number problem) c.args.p)
    (CostsAtMost problem c.args.most) c.args.region.now c.leave_open.new.self c.leave_open.ensures.narrowed
    (open_within problem c.args.region.now c.args.prices.now c.args.paid c.args.p c.args.most c.args.cut c.requires.pairing c.requires.within
    (omega (arith, ints, same, c.if-price_of-cut.true, c.price_of.ensures.value, c.price_of.ensures.bound.0, c.price_of.ensures.bound.1)))
