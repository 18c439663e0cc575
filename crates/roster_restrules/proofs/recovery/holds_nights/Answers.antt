use Rattle.std.proofs.Common.{◌≡◌, ℕ, ◌+◌, ◌-◌, ◌<◌, ◌≤◌, cond, length, sym, arith, rules, refl}
use Rattle.std.proofs.lemmas.Bool.{false≢true}
use Rattle.std.proofs.lemmas.Option.{get_or_from_slice_get}
use Rattle.roster_model.specs.Rules.Recovery.{holds_night}
use Rattle.roster_restrules.proofs.Nights.{adds_one, count_below, count-more, count-rises, count-same, not_held_before, not_held_after}
use Rattle.roster_restrules.proofs.recovery.holds_nights.Goals.{After-from-held}
use Rattle.roster_restrules.proofs.recovery.holds_nights.Goals as goal

pub loop-night-init : goal.loop-night-init
loop-night-init c =
    let days = c.args.days.now in
    let test = holds_night days c.args.from c.args.to in
    let first = c.saturating_sub-first.result in
    let mornings : (k : ℕ) → k < first → k + 1 < c.mornings_by.result =
    λ k below. omega (arith, c.saturating_sub-first.ensures) in
    let none = count-same test 0 first (omega arith) (λ k from below.
    not_held_before days c.args.from c.args.to k
    (c.mornings_by.ensures.value.0 (k + 1) 0 (omega arith) (mornings k below))) in
    record {
      count = sym none;
      few = omega arith;
    }

pub returns-then-le : goal.returns-then-le
returns-then-le c =
    let days = c.args.days.now in
    let test = holds_night days c.args.from c.args.to in
    let night = c.loop-night.night in
    let ten = get_or_from_slice_get days.ten night c.ten.result 0 c.ten.ensures.value in
    let begun : c.args.to ≤ c.ten.result = search rules in
    let inside : night < length days.eight - 1 =
    omega (arith, c.loop-night-test.true, c.days-night-end.ensures.value) in
    let none = count-same test night (length days.eight - 1) (omega arith) (λ k from below.
    not_held_after days c.ten.ensures.table c.args.from c.args.to night k from (omega arith)
    (omega (arith, ten, begun))) in
    let few = c.loop-night.invariant.few in
    let count = c.loop-night.invariant.count in
    (λ h. absurd (false≢true h), λ many. absurd (omega (arith, none, few, count, many)))

-- with this night, which adds one at most
counted : (c : After-from-held) → (c.loop-night.held + c.from-held.result ≡ count_below (holds_night c.args.days.now c.args.from c.args.to) (c.loop-night.night + 1)) × (c.from-held.result ≤ 1)
counted c =
    let test = holds_night c.args.days.now c.args.from c.args.to in
    let held : c.from-held.result ≡ cond (test c.loop-night.night) 1 0 = search rules in
    (omega (arith, c.loop-night.invariant.count, count-more test c.loop-night.night, held), omega (arith, held, adds_one (test c.loop-night.night)))

pub returns-then-held-eq-RECURRENT_NIGHTS : goal.returns-then-held-eq-RECURRENT_NIGHTS
returns-then-held-eq-RECURRENT_NIGHTS c =
    let days = c.args.days.now in
    let night = c.loop-night.night in
    let inside : night < length days.eight - 1 =
    omega (arith, c.loop-night-test.true, c.days-night-end.ensures.value) in
    let rest =
    count-rises (holds_night days c.args.from c.args.to) (night + 1) (length days.eight - 1)
    (omega arith) in
    (λ h. omega (arith, (counted (goal.at.returns-then-held-eq-RECURRENT_NIGHTS c).After-from-held).0, rest, c.if-held-eq-RECURRENT_NIGHTS.true), λ many. refl)

pub loop-night-preserved : goal.loop-night-preserved
loop-night-preserved c =
    let more = counted (goal.at.loop-night-preserved c).After-from-held in
    record { count = more.0; few = omega (arith, c.loop-night.invariant.few, more.1, c.if-held-eq-RECURRENT_NIGHTS.false) }
