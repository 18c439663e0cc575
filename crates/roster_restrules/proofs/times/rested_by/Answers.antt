use Rattle.std.proofs.Common.{◌≡◌, ℕ, ◌+◌, ◌-◌, ◌<◌, ◌≤◌, cond, length, subst, sym, arith, rules}
use Rattle.roster_model.specs.declared.profile.TheConstants.{RECURRENT_NIGHTS}
use Rattle.roster_restrules.proofs.Nights.{adds_one, count_below, count-more, count-same}
use Rattle.roster_restrules.proofs.Rested.{cannot_hold, rested-found, rested-never}
use Rattle.roster_restrules.specs.Times.{can_hold}
use Rattle.roster_restrules.proofs.times.rested_by.Goals.{After-from-held}
use Rattle.roster_restrules.proofs.times.rested_by.Goals as goal

pub loop-night-init : goal.loop-night-init
loop-night-init c =
    let days = c.args.days.now in
    let first = c.saturating_sub-first.result in
    let mornings : (k : ℕ) → k < first → k + 1 < c.mornings_by.result =
    λ k below. omega (arith, c.saturating_sub-first.ensures) in
    let none = count-same (can_hold days c.args.from) 0 first (omega arith) (λ k from below.
    cannot_hold days c.args.from k
    (c.mornings_by.ensures.value.0 (k + 1) 0 (omega arith) (mornings k below))) in
    record { count = sym none; few = omega arith }

-- with this night, which adds one at most
counted : (c : After-from-held) → (c.loop-night.held + c.from-held.result ≡ count_below (can_hold c.args.days.now c.args.from) (c.loop-night.night + 1)) × (c.from-held.result ≤ 1)
counted c =
    let test = can_hold c.args.days.now c.args.from in
    let held : c.from-held.result ≡ cond (test c.loop-night.night) 1 0 = search rules in
    (omega (arith, c.loop-night.invariant.count, count-more test c.loop-night.night, held), omega (arith, held, adds_one (test c.loop-night.night)))

pub returns-then-held-eq-RECURRENT_NIGHTS : goal.returns-then-held-eq-RECURRENT_NIGHTS
returns-then-held-eq-RECURRENT_NIGHTS c =
    let days = c.args.days.now in
    let night = c.loop-night.night in
    let inside : night < length days.eight - 1 =
    omega (arith, c.loop-night-test.true, c.days-night-end.ensures.value) in
    let all = (counted (goal.at.returns-then-held-eq-RECURRENT_NIGHTS c).After-from-held).0 in
    let few = c.loop-night.invariant.few in
    let count = c.loop-night.invariant.count in
    rested-found days c.mornings_by.ensures.table c.args.from night inside
    (omega (arith, all, c.if-held-eq-RECURRENT_NIGHTS.true)) (omega (arith, few, count)) c.max.result
    (search rules)

pub loop-night-preserved : goal.loop-night-preserved
loop-night-preserved c =
    let more = counted (goal.at.loop-night-preserved c).After-from-held in
    record { count = more.0; few = omega (arith, c.loop-night.invariant.few, more.1, c.if-held-eq-RECURRENT_NIGHTS.false) }

pub returns : goal.returns
returns c =
    let last : c.loop-night.night ≡ length c.args.days.now.eight - 1 =
    omega (arith, c.loop-night-test.false, c.days-night-end.ensures.value) in
    let few = c.loop-night.invariant.few in
    let count = c.loop-night.invariant.count in
    let below : count_below (can_hold c.args.days.now c.args.from) c.loop-night.night < RECURRENT_NIGHTS =
    omega (arith, few, count) in
    rested-never c.args.days.now c.mornings_by.ensures.table c.args.from
    (subst (λ n. count_below (can_hold c.args.days.now c.args.from) n < RECURRENT_NIGHTS) last below)
