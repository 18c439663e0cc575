use Rattle.std.proofs.Common.{◌≡◌, ℕ, ◌*◌, ◌/◌, ◌<◌, List, length, get_or, subst, ap, ◌∙◌, sym, arith}
use Rattle.std.specs.Prelude.{All, slice_get, slice_index}
use Rattle.std.proofs.lemmas.Option.{slice_get-get_or}
use Rattle.roster_cost.specs.Amounts.{minutes_of_pairing}
use Rattle.roster_plan_bound.proofs.network.network_of.Goals as goal

-- each flight in steps
stepped : (c : goal.After-result-1) (p : ℕ) → p < length c.args.problem.now.pairings → slice_index c.in_ok-steps.steps.items p * c.step_of-step.result ≡ minutes_of_pairing c.args.problem.now c.args.k p
stepped c p inside =
    let flights = c.requires.pairs.flights in
    let there : p < length c.args.pairs.now.flights.items = omega (arith, flights.covers, inside) in
    let list : List ℕ = c.args.pairs.now.flights.items in
    let step : ℕ = c.step_of-step.result in
    let minutes = flights.each p (get_or list p 0) (slice_get-get_or list p 0 there) in
    let read =
    c.in_ok-steps.ensures.each p (subst (λ xs. p < length xs) (sym c.deref-2.ensures.value) there)
    ∙ ap (λ (xs : List ℕ). get_or xs p 0 / step) c.deref-2.ensures.value in
    let whole =
    subst
    (All (λ flight. flight / step * step ≡ flight)) c.deref.ensures.value c.step_of-step.ensures.whole in
    ap (λ n. n * step) read ∙ whole p 0 there ∙ minutes

pub returns : goal.returns
returns c =
    let pairs = c.requires.pairs in
    let followers : c.in_ok-followers.followers.items ≡ c.args.pairs.now.rows.items =
    c.in_ok-followers.ensures ∙ c.deref-3.ensures.value in
    record {
      alone = pairs.alone;
      covers = ap length followers ∙ pairs.covers;
      followers = λ p row at. pairs.rows p row (ap (λ xs. slice_get xs p) (sym followers) ∙ at);
      step = c.step_of-step.result;
      steps = record {
        covers = c.in_ok-steps.ensures.covers ∙ ap length c.deref-2.ensures.value ∙ pairs.flights.covers;
        each = stepped c;
      };
      terms = c.in_ok-terms.ensures.terms;
      some = c.in_ok-terms.ensures.some;
      within = c.in_ok-terms.ensures.within;
    }
