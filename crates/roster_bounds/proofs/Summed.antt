-- Sums over persons and over pairings, one after another.
use Rattle.std.proofs.Common.{◌≡◌, ℕ, zero, suc, ◌+◌, ◌<◌, cond, eqb, List, [], ◌∷◌, length, drop, Option, Some, ℤ, pos, ◌+ℤ◌, refl, sym, ap, ap₂, ◌∙◌, subst, inl, inr, arith}
use Rattle.std.specs.Prelude.{slice_get, option_map, unwrap_or}
use Rattle.std.specs.List.{range_with_len}
use Rattle.std.proofs.lemmas.Int.{ints}
use Rattle.std.proofs.lemmas.List.{drop_more}
use Rattle.std.proofs.lemmas.Option.{slice_get_cases, slice_get_within, get_or_from_slice_get}
use Rattle.roster_model.specs.Costs.{total}
use Rattle.roster_model.specs.Places.{set_of}
use Rattle.roster_model.specs.records.Pairing.{Pairing}
use Rattle.roster_model.proofs.CostLemmas.{total-nil, total-cons}
use Rattle.roster_cost.specs.Priced.{penalties_and_prices}
use Rattle.roster_bounds.specs.Chosen.{line_set, penalty_at, penalty_or_price, price_at, reduced_at, reduced_costs, HasLines, PricedTable}
use Rattle.roster_bounds.proofs.OfNode.{has_line}

-- what the pairings from p on add, where the next has the number x
pub next_pairing : (tables : PricedTable) (places : List ℕ) (p x : ℕ) → p < length tables.problem.pairings
    → slice_get places p ≡ Some x
    → penalties_and_prices (price_at tables.prices) (length tables.problem.persons) p (drop p tables.problem.pairings) (drop p places)
    ≡ penalty_or_price tables p x +ℤ penalties_and_prices (price_at tables.prices) (length tables.problem.persons) (p + 1) (drop (p + 1) tables.problem.pairings) (drop (p + 1) places)
next_pairing tables places p x inside at =
    let price = price_at tables.prices in
    let n : ℕ = length tables.problem.persons in
    let pairings = tables.problem.pairings in
    elim (slice_get_cases pairings p).1 [
      | inl found ↦
          let pairing = found.0 in
          let penalty : penalty_at tables.problem p ≡ pairing.penalty =
          ap (λ (o : Option Pairing). unwrap_or (option_map (λ q. q.penalty) o) 0) found.2 in
          let rest : ℤ = penalties_and_prices price n (p + 1) (drop (p + 1) pairings) (drop (p + 1) places) in
          ap₂ (λ (qs : List Pairing) (xs : List ℕ). penalties_and_prices price n p qs xs)
          (drop_more pairings p pairing inside ∙ ap (λ (q : Pairing). q ∷ drop (p + 1) pairings) found.3)
          (drop_more places p 0 (slice_get_within places p x at) ∙ ap (λ (y : ℕ). y ∷ drop (p + 1) places) (get_or_from_slice_get places p x 0 at))
          ∙ ap (λ (z : ℕ). cond (eqb x n) (pos z) (price p) +ℤ rest) (sym penalty)
      | inr past ↦ absurd (omega (arith, past.0))
    ]

-- the sum over some persons, and one more
pub total-range_more : (f : ℕ → ℤ) (first n last : ℕ) → first + n ≡ last
    → total f (range_with_len first (suc n)) ≡ total f (range_with_len first n) +ℤ f last
total-range_more f first zero last at =
    let same = ap f (let here : first ≡ last = omega arith in here) in
    omega (arith, ints, total-cons f first [], total-nil f, same)
total-range_more f first (suc n) last at =
    omega (arith, ints, total-cons f first (range_with_len (first + 1) (suc n)), total-cons f first (range_with_len (first + 1) n), total-range_more f (first + 1) n last (omega arith))

-- the sum over the first persons is that of the lines
front : (tables : PricedTable) (first : ℕ) (lines places : List ℕ) → ((k i : ℕ) → slice_get lines k ≡ Some i → line_set tables.table (first + k) i ≡ set_of (first + k) places)
    → total (λ k. reduced_at tables k (set_of k places)) (range_with_len first (length lines)) ≡ reduced_costs tables first lines
front tables first [] places same = total-nil (λ k. reduced_at tables k (set_of k places))
front tables first (i ∷ lines) places same =
    let f : ℕ → ℤ = λ k. reduced_at tables k (set_of k places) in
    let here : first + 0 ≡ first = omega arith in
    let head =
    ap (reduced_at tables first)
    (subst (λ n. line_set tables.table n i ≡ set_of n places) here (same 0 i refl)) in
    let later = front tables (first + 1) lines places (λ k h at. let next : first + suc k ≡ first + 1 + k = omega arith in subst (λ n. line_set tables.table n h ≡ set_of n places) next (same (suc k) h at)) in
    omega (arith, ints, total-cons f first (range_with_len (first + 1) (length lines)), head, later)

pub total-chosen : (tables : PricedTable) (lines places : List ℕ) → HasLines tables.table lines places → total (λ k. reduced_at tables k (set_of k places)) (range_with_len 0 (length lines)) ≡ reduced_costs tables 0 lines
total-chosen tables lines places has =
    front tables 0 lines places (λ k i at. let here : k ≡ 0 + k = omega arith in subst (λ n. line_set tables.table n i ≡ set_of n places) here (has_line tables.table lines places k i has at))
