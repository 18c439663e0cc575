-- What pairings bring to a roster beside reduced costs, one after another, and what a roster costs at least.
use Rattle.std.proofs.Common.{◌≡◌, ℕ, zero, suc, ◌+◌, ◌-◌, ◌*◌, ◌<◌, eqb, cond, List, [], ◌∷◌, length, drop, get_or, Some, refl, sym, ap, ◌∙◌, subst, inl, inr, arith, ℤ, pos, ◌+ℤ◌, ◌-ℤ◌, ◌*ℤ◌, ◌≤ℤ◌, eq-eqb, w64, FitsSigned, rules, ◌≤◌}
use Rattle.std.specs.Prelude.{◌≢◌, slice_get}
use Rattle.std.specs.List.{range_with_len}
use Rattle.std.proofs.lemmas.Bool.{cases_Bool, cases_eq, ne_eqb}
use Rattle.std.proofs.lemmas.Int.{ints}
use Rattle.std.proofs.lemmas.List.{drop_all, drop_more}
use Rattle.std.proofs.lemmas.Option.{get_or_from_slice_get, slice_get-get_or}
use Rattle.roster_model.specs.records.Pairing.{Pairing}
use Rattle.roster_model.specs.Problem.{Problem}
use Rattle.roster_model.specs.Places.{open_number, set_of}
use Rattle.roster_model.specs.Costs.{cost_of, line_cost, open_penalties, total}
use Rattle.roster_model.specs.Rosters.{IsLegalRoster}
use Rattle.roster_model.proofs.CostLemmas.{total-nil, total-cons}
use Rattle.roster_model.specs.declared.limits.TheConstants.{MOST_PERSONS}
use Rattle.roster_cost.specs.Amounts.{cost_without_pairings, IsWithin}
use Rattle.roster_cost.specs.Priced.{penalties_and_prices, reduced_cost}
use Rattle.roster_bases.specs.Bases.{base_of_pairing, only}
use Rattle.roster_bases.specs.Homes.{EachHomeRoster, IsHome, IsHomeBound}
use Rattle.roster_bases.proofs.Homes.{open_elsewhere}
use Rattle.roster_plan_bound.specs.declared.parts.TheConstants.{MOST_LEAST, PARTS}
use Rattle.roster_plan_bound.specs.Reduced.{price_at, reduced, reduced_costs, shares_behind, IsTermOf}

-- a pairing of no list
none : Pairing
none = record { id = []; base = 0; penalty = 0; row = 0 }

-- what the pairings from p on bring, by its own and the next
behind : (problem : Problem) (prices : List ℤ) (p : ℕ) (pairing : Pairing) (pairings : List Pairing) (x : ℕ) (places left : List ℕ) → drop p problem.pairings ≡ pairing ∷ pairings → drop p left ≡ x ∷ places
    → shares_behind problem prices p left
    ≡ (cond (eqb x (open_number problem)) (pos pairing.penalty) (price_at prices p) +ℤ pos ((PARTS - 1) * cond (eqb x (open_number problem)) pairing.penalty 0))
    +ℤ (penalties_and_prices (price_at prices) (open_number problem) (p + 1) pairings places +ℤ pos ((PARTS - 1) * open_penalties (open_number problem) pairings places))
behind problem prices p pairing pairings x places left e f =
    let n = open_number problem in
    let open_ones : open_penalties n (drop p problem.pairings) (drop p left)
    ≡ cond (eqb x n) pairing.penalty 0 + open_penalties n pairings places =
    rw (e, f) refl in
    let priced : penalties_and_prices (price_at prices) n p (drop p problem.pairings) (drop p left) ≡ cond (eqb x n) (pos pairing.penalty) (price_at prices p) +ℤ penalties_and_prices (price_at prices) n (p + 1) pairings places = rw (e, f) refl in
    omega (arith, ints, open_ones, priced)

-- a term is no more than what its pairing brings, whose price counts if it isn't open
own_share : (n x penalty : ℕ) (price term : ℤ) → (x ≢ n → term ≤ℤ price) → term ≤ℤ pos (PARTS * penalty)
    → term ≤ℤ (cond (eqb x n) (pos penalty) price +ℤ pos ((PARTS - 1) * cond (eqb x n) penalty 0))
own_share n x penalty price term flown unflown =
    elim (cases_eq x n) [
      | inl same ↦ rw (eq-eqb x n same) omega (arith, ints, unflown)
      | inr other ↦ rw (ne_eqb x n other) omega (arith, ints, flown other)
    ]

pub one_more : (problem : Problem) (prices : List ℤ) (base p : ℕ) (term sum : ℤ) (places : List ℕ)
    → IsLegalRoster problem places → IsHome problem (only base) places → p < length problem.pairings
    → IsTermOf problem base p (price_at prices p) term → sum ≤ℤ shares_behind problem prices (p + 1) places
    → (sum +ℤ term) ≤ℤ shares_behind problem prices p places
one_more problem prices base p term sum places roster home inside is below =
    let pairing : Pairing = get_or problem.pairings p none in
    let at : slice_get problem.pairings p ≡ Some pairing = slice_get-get_or problem.pairings p none inside in
    let covers = roster.covers in
    let x : ℕ = get_or places p 0 in
    let there : p < length places = omega (arith, covers) in
    let e : drop p problem.pairings ≡ pairing ∷ drop (p + 1) problem.pairings = drop_more problem.pairings p pairing inside ∙ ap (λ q. q ∷ drop (p + 1) problem.pairings) (get_or_from_slice_get problem.pairings p pairing pairing at) in
    let split =
    behind problem prices p pairing (drop (p + 1) problem.pairings) x (drop (p + 1) places) places e
    (drop_more places p 0 there) in
    let flown : x ≢ open_number problem → term ≤ℤ price_at prices p = λ someone.
    elim (cases_Bool (only base (base_of_pairing problem p))) [
      | inl own ↦ is.flown own
      | inr other ↦ absurd (someone (open_elsewhere problem (only base) places p roster home inside other))
    ] in
    let own =
    own_share (open_number problem) x pairing.penalty (price_at prices p) term flown
    (is.unflown pairing at) in
    omega (arith, ints, split, own, below)

pub nothing_behind : (problem : Problem) (prices : List ℤ) (p : ℕ) (places : List ℕ)
    → p ≡ length problem.pairings → pos 0 ≤ℤ shares_behind problem prices p places
nothing_behind problem prices p places end =
    let e : drop p problem.pairings ≡ [] = drop_all p problem.pairings (omega arith) in
    subst (λ (ps : List Pairing). pos 0 ≤ℤ (penalties_and_prices (price_at prices) (open_number problem) p ps (drop p places) +ℤ pos ((PARTS - 1) * open_penalties (open_number problem) ps (drop p places)))) (sym e) (omega (arith, ints))

-- ---- what a roster costs

-- one person more
pub reduced_more : (problem : Problem) (prices : List ℤ) (k : ℕ) (places : List ℕ) → reduced_costs problem prices (k + 1) places ≡ reduced_costs problem prices k places +ℤ reduced problem prices k (set_of k places)
reduced_more problem prices k places = total-next (λ j. reduced problem prices j (set_of j places)) k
  where
    total-last : (f : ℕ → ℤ) (first n last : ℕ) → first + n ≡ last
        → total f (range_with_len first (suc n)) ≡ total f (range_with_len first n) +ℤ f last
    total-last f first zero last at =
        let here : first ≡ last = omega arith in
        omega (arith, ints, total-cons f first [], total-nil f, ap f here)
    total-last f first (suc n) last at =
        omega (arith, ints, total-cons f first (range_with_len (first + 1) (suc n)), total-cons f first (range_with_len (first + 1) n), total-last f (first + 1) n last (omega arith))

    total-next : (f : ℕ → ℤ) (k : ℕ)
        → total f (range_with_len 0 (k + 1)) ≡ total f (range_with_len 0 k) +ℤ f k
    total-next f k =
        let next : k + 1 ≡ suc k = omega arith in
        ap (λ n. total f (range_with_len 0 n)) next ∙ total-last f 0 k k (omega arith)

pub reduced_none : (problem : Problem) (prices : List ℤ) (places : List ℕ)
    → reduced_costs problem prices 0 places ≡ pos 0
reduced_none problem prices places = total-nil (λ j. reduced problem prices j (set_of j places))

-- of three sums over the same
sums_split : {X : Type 0} (whole line idle priced : X → ℤ)
    → ((x : X) → whole x ≡ (pos PARTS *ℤ (line x -ℤ idle x)) -ℤ (line x -ℤ priced x)) → (xs : List X)
    → total whole xs ≡ (pos PARTS *ℤ (total line xs -ℤ total idle xs)) -ℤ (total line xs -ℤ total priced xs)
sums_split whole line idle priced each [] =
    omega (arith, ints, total-nil whole, total-nil line, total-nil idle, total-nil priced)
sums_split whole line idle priced each (x ∷ xs) =
    omega (arith, ints, total-cons whole x xs, total-cons line x xs, total-cons idle x xs, total-cons priced x xs, each x, sums_split whole line idle priced each xs)

-- the laws of shares, at one roster
abbrev pub IsShared : Problem → List ℕ → Type 0
IsShared problem places =
    cost_of problem places ≡ pos (open_penalties (open_number problem) problem.pairings places) +ℤ total (λ k. line_cost problem k (set_of k places)) (range_with_len 0 (length problem.persons))

abbrev pub IsPriced : Problem → List ℤ → List ℕ → Type 0
IsPriced problem prices places =
    cost_of problem places ≡ total (λ k. reduced_cost problem (price_at prices) k (set_of k places)) (range_with_len 0 (length problem.persons)) +ℤ penalties_and_prices (price_at prices) (open_number problem) 0 problem.pairings places

-- a roster costs its reduced costs, and what its pairings bring beside
pub parts_of_cost : (problem : Problem) (prices : List ℤ) (places : List ℕ) → IsShared problem places
    → IsPriced problem prices places
    → (pos PARTS *ℤ (cost_of problem places -ℤ cost_without_pairings problem)) ≡ reduced_costs problem prices (length problem.persons) places +ℤ shares_behind problem prices 0 places
parts_of_cost problem prices places shared priced =
    let persons = range_with_len 0 (length problem.persons) in
    let split =
    sums_split (λ k. reduced problem prices k (set_of k places))
    (λ k. line_cost problem k (set_of k places)) (λ k. line_cost problem k [])
    (λ k. reduced_cost problem (price_at prices) k (set_of k places))
    (λ k. omega (arith, ints)) persons in
    omega (arith, ints, split, shared, priced)

-- so one of the base costs at least what sums say that are no more than these
pub bound_below : (problem : Problem) (prices : List ℤ) (base : ℕ) (leasts terms units : ℤ)
    → ((places : List ℕ) → IsLegalRoster problem places → IsShared problem places)
    → ((places : List ℕ) → IsLegalRoster problem places → IsPriced problem prices places)
    → EachHomeRoster problem (only base) (λ places. leasts ≤ℤ reduced_costs problem prices (length problem.persons) places)
    → EachHomeRoster problem (only base) (λ places. terms ≤ℤ shares_behind problem prices 0 places)
    → ((more : ℤ) → (leasts +ℤ terms) ≤ℤ (pos PARTS *ℤ more) → units ≤ℤ more)
    → IsHomeBound problem (only base) (cost_without_pairings problem +ℤ units)
bound_below problem prices base leasts terms units shared priced persons pairings least places roster home =
    let whole = parts_of_cost problem prices places (shared places roster) (priced places roster) in
    let first = persons places roster home in
    let second = pairings places roster home in
    let above =
    least (cost_of problem places -ℤ cost_without_pairings problem)
    (omega (arith, ints, whole, first, second)) in
    omega (arith, ints, above)

-- one person's least reduced cost more fits a word
pub sum_fits : (sum least : ℤ) (k n : ℕ) → n ≤ MOST_PERSONS → k < n → IsWithin (k * MOST_LEAST) sum
    → IsWithin MOST_LEAST least → FitsSigned w64 (sum +ℤ least)
sum_fits sum least k n few below sum_within least_within =
    let low = sum_within.0 in
    let high = sum_within.1 in
    let least_low = least_within.0 in
    let least_high = least_within.1 in
    search rules
