use Rattle.std.proofs.Common.{neg_ℤ, ◌≤ℤ◌, arith, w64, to_z, of_z}
use Rattle.std.proofs.lemmas.Int.{clamps, ints}
use Rattle.roster_cost.specs.Amounts.{IsWithin}
use Rattle.roster_plan_bound.specs.declared.parts.TheConstants.{MOST_WORTH}
use Rattle.roster_plan_bound.proofs.worths.near_worth.Goals as goal

-- no further from 0 than the greatest worth, nor below 0 than the weight
near : (c : goal.After-clamp) → IsWithin MOST_WORTH (to_z w64 (of_z w64 c.clamp.result)) × (neg_ℤ c.args.weight ≤ℤ to_z w64 (of_z w64 c.clamp.result))
near c =
    let low = c.clamp.ensures.lower_bound in
    let high = c.clamp.ensures.upper_bound in
    let least = c.min-near.ensures.other_bound in
    let is = c.min-near.ensures.value in
    let most = c.most_worth.ensures.1 in
    let some = c.requires.0 in
    let few = c.requires.1 in
    ((omega (arith, ints, clamps, low, high, least, is, most, some, few), omega (arith, ints, clamps, low, high, least, is, most, some, few)), omega (arith, ints, clamps, low, high, least, is, most, some, few))

pub returns-clause-small : goal.returns-clause-small
returns-clause-small c = (near c).0

pub returns-clause-weighed : goal.returns-clause-weighed
returns-clause-weighed c = (near c).1
