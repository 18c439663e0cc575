use Rattle.std.proofs.Common.{length, get_or, pos, ◌+ℤ◌, w64, SFits, to_z, of_z, sym, ap, ◌∙◌, subst, arith, rules}
use Rattle.std.proofs.lemmas.Int.{to_z-of_z}
use Rattle.roster_search_regions.specs.Regions.{IsNarrowed}
use Rattle.roster_search_fixing.specs.Bounds.{CostsAtMost, IsValueWithin}
use Rattle.roster_search_fixing.proofs.Fixing.{value_within_part}
use Rattle.roster_search_fixing.proofs.Narrowing.{narrowed_then}
use Rattle.roster_search_fixing.proofs.tightening.fix_lines.Goals as goal

pub fix_lines_of-requires-clause-within : goal.fix_lines_of-requires-clause-within
fix_lines_of-requires-clause-within c =
    let problem = c.args.problem.now in
    let k = c.loop-k.k in
    let most = to_z w64 (of_z w64 c.args.most) in
    let persons = ap length c.persons-k-end.ensures.value in
    let fits : SFits w64 c.cut_of_line-cut.result = search rules in
    let cut = to_z-of_z w64 c.cut_of_line-cut.result fits ∙ c.cut_of_line-cut.ensures in
    let whole = subst (λ m. IsValueWithin problem c.args.region.now c.args.prices.now k m (get_or c.args.bounds.now.values.items k (pos 0) +ℤ c.args.bounds.now.slack)) (sym (to_z-of_z w64 c.args.most c.ranges.most)) (c.requires.bounds.1.is_slack.lines k (omega (arith, persons, c.loop-k-test.true))) in
    subst (λ z. IsValueWithin problem c.loop-k.region c.args.prices.now k most z) (sym cut)
    (value_within_part problem c.args.region.now c.loop-k.region c.args.prices.now k most (get_or c.args.bounds.now.values.items k (pos 0) +ℤ c.args.bounds.now.slack) c.loop-k.invariant whole)

pub loop-k-preserved : goal.loop-k-preserved
loop-k-preserved c =
    narrowed_then c.args.problem.now (CostsAtMost c.args.problem.now (to_z w64 (of_z w64 c.args.most))) c.args.region.now c.loop-k.region c.fix_lines_of.new.region c.loop-k.invariant c.in_ok-fix_lines_of.ensures

pub returns : goal.returns
returns c =
    subst (λ most. IsNarrowed c.args.problem.now (CostsAtMost c.args.problem.now most) c.args.region.now c.loop-k.region)
    (to_z-of_z w64 c.args.most c.ranges.most) c.loop-k.invariant
