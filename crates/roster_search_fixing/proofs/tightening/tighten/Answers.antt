use Rattle.std.proofs.Common.{◌≡◌, true, w64, to_z, of_z, subst, rules}
use Rattle.std.proofs.lemmas.Int.{to_z-of_z}
use Rattle.roster_search_regions.specs.Regions.{IsNarrowed}
use Rattle.roster_search_fixing.specs.Bounds.{CostsAtMost, IsAllAbove}
use Rattle.roster_search_fixing.specs.Propagation.{Anything, IsEmpty}
use Rattle.roster_search_fixing.proofs.Fixing.{match_true}
use Rattle.roster_search_fixing.proofs.Narrowing.{narrowed_by_less, narrowed_then}
use Rattle.roster_search_fixing.proofs.tightening.tighten.Goals as goal

pub returns-then-gone-before : goal.returns-then-gone-before
returns-then-gone-before c =
    let problem = c.args.problem.now in
    let most = to_z w64 (of_z w64 c.args.most) in
    let yes : c.in_ok-tighten_once.field-0 ≡ true = search rules in
    let step =
    match_true c.in_ok-tighten_once.field-0
    (IsNarrowed problem (CostsAtMost problem most) c.loop.region c.tighten_once.new.region)
    (IsAllAbove problem c.loop.region most) yes c.in_ok-tighten_once.ensures in
    let some : c.in_ok-propagate.field-0 ≡ true = search rules in
    let follows =
    match_true c.in_ok-propagate.field-0
    (IsNarrowed problem Anything c.tighten_once.new.region c.propagate.new.region)
    (IsEmpty problem c.tighten_once.new.region) some c.in_ok-propagate.ensures in
    subst (λ m. IsNarrowed problem (CostsAtMost problem m) c.args.region.now c.propagate.new.region)
    (to_z-of_z w64 c.args.most c.ranges.most)
    (narrowed_then problem (CostsAtMost problem most) c.args.region.now c.loop.region c.propagate.new.region c.loop.invariant
    (narrowed_then problem (CostsAtMost problem most) c.loop.region c.tighten_once.new.region c.propagate.new.region step
    (narrowed_by_less problem (CostsAtMost problem most) c.tighten_once.new.region c.propagate.new.region follows)))

pub loop-preserved : goal.loop-preserved
loop-preserved c =
    let problem = c.args.problem.now in
    let most = to_z w64 (of_z w64 c.args.most) in
    let yes : c.in_ok-tighten_once.field-0 ≡ true = search rules in
    let step =
    match_true c.in_ok-tighten_once.field-0
    (IsNarrowed problem (CostsAtMost problem most) c.loop.region c.tighten_once.new.region)
    (IsAllAbove problem c.loop.region most) yes c.in_ok-tighten_once.ensures in
    let some : c.in_ok-propagate.field-0 ≡ true = search rules in
    let follows =
    match_true c.in_ok-propagate.field-0
    (IsNarrowed problem Anything c.tighten_once.new.region c.propagate.new.region)
    (IsEmpty problem c.tighten_once.new.region) some c.in_ok-propagate.ensures in
    narrowed_then problem (CostsAtMost problem most) c.args.region.now c.loop.region c.propagate.new.region c.loop.invariant
    (narrowed_then problem (CostsAtMost problem most) c.loop.region c.tighten_once.new.region c.propagate.new.region step
    (narrowed_by_less problem (CostsAtMost problem most) c.tighten_once.new.region c.propagate.new.region follows))
