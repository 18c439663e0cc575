use Rattle.std.proofs.Common.{length, get_or, pos, ◌+ℤ◌, w64, SFits, to_z, of_z, sym, ap, ◌∙◌, subst, arith, rules}
use Rattle.std.proofs.lemmas.Int.{to_z-of_z}
use Rattle.roster_search_fixing.specs.Bounds.{CostsAtMost, IsShareWithin}
use Rattle.roster_search_fixing.proofs.Fixing.{share_within_part}
use Rattle.roster_search_fixing.proofs.Narrowing.{narrowed_then}
use Rattle.roster_search_fixing.proofs.tightening.fix_pairings.Goals as goal

pub fix_flown-requires-clause-within : goal.fix_flown-requires-clause-within
fix_flown-requires-clause-within c =
    let problem = c.args.problem.now in
    let p = c.loop-p.p in
    let most = to_z w64 (of_z w64 c.args.most) in
    let pairings = ap length c.pairings-p-end.ensures.value in
    let fits : SFits w64 c.cut_of_pairing-cut.result = search rules in
    let cut = to_z-of_z w64 c.cut_of_pairing-cut.result fits ∙ c.cut_of_pairing-cut.ensures in
    let paid = to_z w64 (of_z w64 c.args.paid) in
    let priced = subst (λ z. IsShareWithin problem c.args.region.now c.args.prices.now z p c.args.most (get_or c.args.bounds.now.terms.items p (pos 0) +ℤ c.args.bounds.now.slack)) (sym (to_z-of_z w64 c.args.paid c.ranges.paid)) (c.requires.bounds.is_slack.pairings p (omega (arith, pairings, c.loop-p-test.true))) in
    let whole = subst (λ m. IsShareWithin problem c.args.region.now c.args.prices.now paid p m (get_or c.args.bounds.now.terms.items p (pos 0) +ℤ c.args.bounds.now.slack)) (sym (to_z-of_z w64 c.args.most c.ranges.most)) priced in
    subst (λ z. IsShareWithin problem c.loop-p.region c.args.prices.now paid p most z) (sym cut)
    (share_within_part problem c.args.region.now c.loop-p.region c.args.prices.now paid p most (get_or c.args.bounds.now.terms.items p (pos 0) +ℤ c.args.bounds.now.slack) c.loop-p.invariant whole)

pub fix_open-requires-clause-within : goal.fix_open-requires-clause-within
fix_open-requires-clause-within c =
    let problem = c.args.problem.now in
    let p = c.loop-p.p in
    let most = to_z w64 (of_z w64 c.args.most) in
    let pairings = ap length c.pairings-p-end.ensures.value in
    let fits : SFits w64 c.cut_of_pairing-cut.result = search rules in
    let cut = to_z-of_z w64 c.cut_of_pairing-cut.result fits ∙ c.cut_of_pairing-cut.ensures in
    let part = narrowed_then problem (CostsAtMost problem most) c.args.region.now c.loop-p.region c.fix_flown.new.region c.loop-p.invariant c.fix_flown.ensures in
    let paid = to_z w64 (of_z w64 c.args.paid) in
    let priced = subst (λ z. IsShareWithin problem c.args.region.now c.args.prices.now z p c.args.most (get_or c.args.bounds.now.terms.items p (pos 0) +ℤ c.args.bounds.now.slack)) (sym (to_z-of_z w64 c.args.paid c.ranges.paid)) (c.requires.bounds.is_slack.pairings p (omega (arith, pairings, c.loop-p-test.true))) in
    let whole = subst (λ m. IsShareWithin problem c.args.region.now c.args.prices.now paid p m (get_or c.args.bounds.now.terms.items p (pos 0) +ℤ c.args.bounds.now.slack)) (sym (to_z-of_z w64 c.args.most c.ranges.most)) priced in
    subst (λ z. IsShareWithin problem c.fix_flown.new.region c.args.prices.now paid p most z) (sym cut)
    (share_within_part problem c.args.region.now c.fix_flown.new.region c.args.prices.now paid p most (get_or c.args.bounds.now.terms.items p (pos 0) +ℤ c.args.bounds.now.slack) part whole)

pub loop-p-preserved : goal.loop-p-preserved
loop-p-preserved c =
    let problem = c.args.problem.now in
    let Costs = CostsAtMost problem (to_z w64 (of_z w64 c.args.most)) in
    narrowed_then problem Costs c.args.region.now c.fix_flown.new.region c.fix_open.new.region
    (narrowed_then problem Costs c.args.region.now c.loop-p.region c.fix_flown.new.region c.loop-p.invariant c.fix_flown.ensures) c.fix_open.ensures
