use Rattle.std.proofs.Common.{w64, to_z, of_z, sym, subst}
use Rattle.std.proofs.lemmas.Int.{to_z-of_z}
use Rattle.roster_search_regions.specs.Regions.{IsNarrowed}
use Rattle.roster_search_fixing.specs.Bounds.{CostsAtMost, IsValueWithin}
use Rattle.roster_search_fixing.proofs.Fixing.{lines_within}
use Rattle.roster_search_fixing.proofs.tightening.fix_lines_of.Goals as goal

pub returns-in_ok-keep_within : goal.returns-in_ok-keep_within
returns-in_ok-keep_within c =
    let problem = c.args.problem.now in
    let same = to_z-of_z w64 c.args.cut c.ranges.cut in
    subst (IsNarrowed problem (CostsAtMost problem c.args.most) c.args.region.now)
    (sym c.in_ok-keep_within.ensures)
    (lines_within problem c.args.region.now c.args.prices.now c.args.k c.args.most (to_z w64 (of_z w64 c.args.cut)) c.requires.region c.requires.person
    (subst (λ cut. IsValueWithin problem c.args.region.now c.args.prices.now c.args.k c.args.most cut) (sym same) c.requires.within))
