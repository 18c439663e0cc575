use Rattle.std.proofs.Common.{◌≡◌, ℕ, ◌-◌, ◌<◌, List, length, get_or, Some, sym, ap, ◌∙◌, subst, arith, ℤ, pos, ◌+ℤ◌, w64, to_z, of_z, FitsSigned, rules}
use Rattle.std.specs.Prelude.{All, slice_get}
use Rattle.std.proofs.lemmas.Int.{ints, to_z-of_z}
use Rattle.std.proofs.lemmas.Option.{get_or_from_slice_get, slice_get-get_or}
use Rattle.roster_cost.specs.Amounts.{IsWithin}
use Rattle.roster_plan_bound.specs.declared.parts.TheConstants.{MOST_AMOUNT, MOST_LEAST, MOST_CHAIN_VALUE}
use Rattle.roster_plan_bound.specs.Chains.{next_state, value_at}
use Rattle.roster_plan_bound.proofs.GapLemmas.{least_behind_is}
use Rattle.roster_plan_bound.proofs.RowLemmas.{row_small, value_within, All-within-more}
use Rattle.roster_plan_bound.proofs.gap.least_behind.Goals as goal

-- amounts of a row are small
row_within : (c : goal.After-led) → All (IsWithin MOST_LEAST) c.all.result.now
row_within c =
    subst (All (IsWithin MOST_LEAST)) (sym c.all.ensures)
    (row_small c.args.chains.now.problem.now c.args.chains.now.network.now c.args.chains.now.values.now c.args.rows.now (length c.args.rows.now - 1 - c.args.p) c.index-rows-rows.result
    c.requires.rows c.is_sound.ensures.sound.pairings
    (omega (arith, c.requires.all, c.requires.place)) c.index-rows-rows.is)

pub led-requires-clause-after : goal.led-requires-clause-after
led-requires-clause-after c =
    subst (All (IsWithin MOST_AMOUNT)) (sym c.all.ensures)
    (All-within-more MOST_LEAST MOST_AMOUNT c.index-rows-rows.result (omega arith)
    (row_small c.args.chains.now.problem.now c.args.chains.now.network.now c.args.chains.now.values.now c.args.rows.now (length c.args.rows.now - 1 - c.args.p) c.index-rows-rows.result
    c.requires.rows c.is_sound.ensures.sound.pairings
    (omega (arith, c.requires.all, c.requires.place)) c.index-rows-rows.is))

pub led-requires-clause-value : goal.led-requires-clause-value
led-requires-clause-value c =
    value_within c.args.chains.now.values.now c.args.p c.requires.values
    (omega (arith, c.requires.covers, c.requires.place))

pub overflow_add-result : goal.overflow_add-result
overflow_add-result c =
    let value : ℤ = c.along-value.result.0 in
    let led : ℤ = c.led.result in
    let value_within = c.along-value.ensures.within in
    let led_within = c.led.ensures.within MOST_LEAST (row_within c) in
    let value_fits : FitsSigned w64 value = search rules in
    let led_fits : FitsSigned w64 led = search rules in
    let value_told : to_z w64 (of_z w64 value) ≡ value = to_z-of_z w64 value value_fits in
    let led_told : to_z w64 (of_z w64 led) ≡ led = to_z-of_z w64 led led_fits in
    search rules

slice_index_any : (xs : List ℕ) (i d : ℕ) → i < length xs → get_or xs i d ≡ get_or xs i 0
slice_index_any xs i d inside =
    sym (get_or_from_slice_get xs i (get_or xs i d) 0 (slice_get-get_or xs i d inside))

pub returns : goal.returns
returns c =
    let problem = c.args.chains.now.problem.now in
    let network = c.args.chains.now.network.now in
    let values = c.args.chains.now.values.now in
    let rows = c.args.rows.now in
    let p = c.args.p in
    let value : ℤ = c.along-value.result.0 in
    let state = c.along-value.result.1 in
    let led : ℤ = c.led.result in
    let value_within = c.along-value.ensures.within in
    let led_within = c.led.ensures.within MOST_LEAST (row_within c) in
    let value_fits : FitsSigned w64 value = search rules in
    let led_fits : FitsSigned w64 led = search rules in
    let value_told : to_z w64 (of_z w64 value) ≡ value = to_z-of_z w64 value value_fits in
    let led_told : to_z w64 (of_z w64 led) ≡ led = to_z-of_z w64 led led_fits in
    let whole : ℤ = to_z w64 (of_z w64 value) +ℤ to_z w64 (of_z w64 led) in
    let whole_fits : FitsSigned w64 whole = search rules in
    let whole_told : to_z w64 (of_z w64 whole) ≡ whole = to_z-of_z w64 whole whole_fits in
    let brought : ℤ = value_at values p in
    let brought_within : IsWithin MOST_CHAIN_VALUE brought =
    c.requires.values p (pos 0) (omega (arith, c.requires.covers, c.requires.place)) in
    let brought_fits : FitsSigned w64 brought = search rules in
    let brought_told : to_z w64 (of_z w64 brought) ≡ brought = to_z-of_z w64 brought brought_fits in
    let behind = c.all.result.now in
    let place : length rows - 1 - p ≡ length problem.pairings - 1 - p = omega (arith, c.requires.all) in
    let inside : length rows - 1 - p < length rows = omega (arith, c.requires.all, c.requires.place) in
    let at : slice_get rows (length problem.pairings - 1 - p) ≡ Some behind =
    ap (slice_get rows) (sym place)
    ∙ slice_get-get_or rows (length rows - 1 - p) c.index-rows-rows.result inside
    ∙ ap Some (sym c.index-rows-rows.is ∙ sym c.all.ensures) in
    let states : c.len.result ≡ length network.terms.items =
    omega (arith, c.len.ensures, network.terms.ok.0) in
    let stepped : c.index.result.now ≡ get_or network.steps.items p 0 = c.index.ensures ∙ slice_index_any network.steps.items p c.index.result.now (omega (arith, c.requires.network.steps.covers, c.requires.place)) in
    let next : c.next_state-next.result ≡ next_state (length network.terms.items) state (get_or network.steps.items p 0) =
    c.next_state-next.ensures.value ∙ ap (λ n. next_state n state c.index.result.now) states
    ∙ ap (next_state (length network.terms.items) state) stepped in
    let told : led ≡ brought +ℤ value_at behind (next_state (length network.terms.items) state (get_or network.steps.items p 0)) =
    c.led.ensures.value ∙ ap (λ z. z +ℤ value_at behind c.next_state-next.result) brought_told
    ∙ ap (λ n. brought +ℤ value_at behind n) next in
    let is = least_behind_is problem network values rows c.args.set.now p value state behind c.requires.rows c.requires.network.some c.requires.place at c.along-value.ensures.along in
    λ rest chain.
    let below = is rest chain in
    omega (arith, ints, below, told, whole_told, value_told, led_told)
