use Rattle.std.proofs.Common.{◌≡◌, ◌+◌, ◌-◌, ◌*◌, ◌<◌, List, length, get_or, Some, subst, sym, ap, ◌∙◌, inl, inr, arith, ℤ, ◌+ℤ◌, ◌≤ℤ◌}
use Rattle.std.specs.Prelude.{All, slice_get}
use Rattle.std.proofs.lemmas.Option.{get_or_from_slice_get, slice_get-get_or}
use Rattle.std.proofs.lemmas.Bool.{cases_eq, cases_lt, false≢true}
use Rattle.std.proofs.lemmas.Int.{ints}
use Rattle.roster_cost.specs.Amounts.{IsWithin}
use Rattle.roster_plan_bound.specs.declared.parts.TheConstants.{MOST_AMOUNT, MOST_LEAST, MOST_TARGET_TERM, MOST_CHAIN_VALUE}
use Rattle.roster_plan_bound.specs.Chains.{next_state, value_at}
use Rattle.roster_plan_bound.proofs.RowLemmas.{lowered, row_is, row_small, value_within, All-within-more}
use Rattle.roster_plan_bound.proofs.rows.row_behind.Goals as goal

-- the place of the pairing
inside_place : (c : goal.After-relax) → c.in-Some.q < length c.args.chains.now.problem.now.pairings
inside_place c =
    ((c.requires.network.alone c.in-Some.q).0 (c.requires.alone c.in-Some.q c.in-Some.ensures.place.2)).0

-- the row that the pairing leads to
row_found : (c : goal.After-relax) (row : List ℤ)
    → slice_get c.args.rows.now (length c.args.chains.now.problem.now.pairings - 1 - c.in-Some.q) ≡ Some row
    → c.index-rows-count.result ≡ row
row_found c row at =
    let count = ap length c.pairings-count.ensures.value in
    let there = subst (λ n. slice_get c.args.rows.now (n - 1 - c.in-Some.q) ≡ Some row) (sym count) at in
    c.index-rows-count.is ∙ get_or_from_slice_get c.args.rows.now (length c.pairings-count.result.now - 1 - c.in-Some.q) row c.index-rows-count.result there

row_within : (c : goal.After-relax)
    → All (IsWithin (MOST_TARGET_TERM + length c.args.rows.now * MOST_CHAIN_VALUE)) c.index-rows-count.result
row_within c =
    let count = ap length c.pairings-count.ensures.value in
    let done = c.requires.done c.in-Some.q c.in-Some.ensures.place.2 c.in-Some.ensures.place.1 in
    subst (All (IsWithin (MOST_TARGET_TERM + length c.args.rows.now * MOST_CHAIN_VALUE))) (sym c.index-rows-count.is)
    (c.requires.rows.within (length c.pairings-count.result.now - 1 - c.in-Some.q) c.index-rows-count.result (omega (arith, count, done)))

pub relax-requires-clause-same : goal.relax-requires-clause-same
relax-requires-clause-same c =
    let rows = c.args.rows.now in
    let q = c.in-Some.q in
    let row = c.index-rows-count.result in
    let count = ap length c.pairings-count.ensures.value in
    let among = c.requires.alone q c.in-Some.ensures.place.2 in
    let done = c.requires.done q c.in-Some.ensures.place.2 c.in-Some.ensures.place.1 in
    let at = slice_get-get_or rows (length c.pairings-count.result.now - 1 - q) row (omega (arith, count, done)) ∙ ap (λ (r : List ℤ). Some r) (sym c.index-rows-count.is) in
    (c.requires.rows.each q row ((c.requires.network.alone q).0 among).0 (subst (λ n. slice_get rows (n - 1 - q) ≡ Some row) count at)).covers
    ∙ sym c.loop-q.invariant.covers

pub relax-requires-clause-value : goal.relax-requires-clause-value
relax-requires-clause-value c =
    let among = c.requires.alone c.in-Some.q c.in-Some.ensures.place.2 in
    let place = ((c.requires.network.alone c.in-Some.q).0 among).0 in
    value_within c.args.chains.now.values.now c.in-Some.q c.requires.values (omega (arith, c.requires.covers, place))

pub relax-requires-clause-after : goal.relax-requires-clause-after
relax-requires-clause-after c =
    let problem = c.args.chains.now.problem.now in
    let row = c.index-rows-count.result in
    let count = ap length c.pairings-count.ensures.value in
    let done = c.requires.done c.in-Some.q c.in-Some.ensures.place.2 c.in-Some.ensures.place.1 in
    All-within-more MOST_LEAST MOST_AMOUNT row (omega arith)
    (row_small problem c.args.chains.now.network.now c.args.chains.now.values.now c.args.rows.now (length c.pairings-count.result.now - 1 - c.in-Some.q) row
    c.requires.rows c.is_sound.ensures.sound.pairings (omega (arith, count, done)) c.index-rows-count.is)

pub loop-q-preserved : goal.loop-q-preserved
loop-q-preserved c =
    let inv = c.loop-q.invariant in
    record {
      covers = c.relax.ensures.same ∙ inv.covers;
      kept = λ f inside. let before = inv.kept f inside in let now = c.relax.ensures.kept f (omega (arith, inv.covers, inside)) in omega (arith, ints, before, now);
      led = λ q row below among at f inside. elim (cases_eq q c.in-Some.q) [
        | inl here ↦
            let behind = row_found c row (subst (λ i. slice_get c.args.rows.now (length c.args.chains.now.problem.now.pairings - 1 - i) ≡ Some row) here at) in
            let place = inside_place c in
            let led = lowered c.args.chains.now.values.now c.index-rows-count.result c.relax.new.self c.args.chains.now.network.now.steps.items (length c.loop-q.row) (length c.args.chains.now.network.now.terms.items) f c.in-Some.q c.index.result.now c.requires.values
            (omega (arith, c.requires.covers, place))
            (omega (arith, c.requires.network.steps.covers, place)) c.index.ensures inv.covers
            (c.relax.ensures.through f (omega (arith, inv.covers, inside))) in
            let told = subst (λ r. value_at c.relax.new.self f ≤ℤ (value_at c.args.chains.now.values.now c.in-Some.q +ℤ value_at r (next_state (length c.args.chains.now.network.now.terms.items) f (get_or c.args.chains.now.network.now.steps.items c.in-Some.q 0)))) behind led in
            subst (λ i. value_at c.relax.new.self f ≤ℤ (value_at c.args.chains.now.values.now i +ℤ value_at row (next_state (length c.args.chains.now.network.now.terms.items) f (get_or c.args.chains.now.network.now.steps.items i 0)))) (sym here) told
        | inr other ↦
            let before : q < c.loop-q.from = elim (cases_lt q c.loop-q.from) [
              | inl old ↦ old
              | inr new ↦ absurd (false≢true (sym (c.in-Some.ensures.least q new (omega (arith, below, other))) ∙ among))
            ] in
            let led = inv.led q row before among at f inside in
            let now = c.relax.ensures.kept f (omega (arith, inv.covers, inside)) in
            omega (arith, ints, led, now)
      ];
      within =
          All-within-more ((MOST_TARGET_TERM + length c.args.rows.now * MOST_CHAIN_VALUE) + MOST_CHAIN_VALUE)
          (MOST_TARGET_TERM + (length c.args.rows.now + 1) * MOST_CHAIN_VALUE) c.relax.new.self (omega arith)
          (c.relax.ensures.within (MOST_TARGET_TERM + length c.args.rows.now * MOST_CHAIN_VALUE)
          (row_within c)
          (All-within-more (MOST_TARGET_TERM + (length c.args.rows.now + 1) * MOST_CHAIN_VALUE) ((MOST_TARGET_TERM + length c.args.rows.now * MOST_CHAIN_VALUE) + MOST_CHAIN_VALUE) c.loop-q.row (omega arith) inv.within));
    }

pub returns-clause-row : goal.returns-clause-row
returns-clause-row c =
    let inv = c.loop-q.invariant in
    row_is c.args.chains.now.problem.now c.args.chains.now.network.now c.args.chains.now.values.now c.args.rows.now c.args.first.now c.loop-q.row c.args.tail.now c.args.until c.requires.network.some c.requires.rows c.requires.tail inv.covers inv.kept
    (λ q behind among near at f inside. inv.led q behind (elim (cases_lt q c.loop-q.from) [
      | inl old ↦ old
      | inr new ↦ absurd (false≢true (sym (c.in_default.ensures.least q new near) ∙ among))
    ]) among at f inside)
    (λ q among. (((c.requires.network.alone q).0 (c.requires.alone q among)).0, c.requires.alone q among))
    c.requires.done
