-- Sums of prices on a path.
use Rattle.std.proofs.Common.{◌≡◌, ℕ, ◌+◌, ◌*◌, ◌<◌, ◌≤◌, List, [], ◌∷◌, ◌++◌, length, get_or, set, take, ℤ, pos, ◌+ℤ◌, refl, sym, ap, ◌∙◌, inl, inr, arith}
use Rattle.std.proofs.lemmas.Bool.{cases_lt}
use Rattle.std.proofs.lemmas.Int.{ints}
use Rattle.std.proofs.lemmas.List.{get_or-set_same, get_or-set_other, get_or_past, length-take-le, length_push, take_all, take-append-le, take-take}
use Rattle.roster_model.specs.declared.limits.TheConstants.{MOST_PAIRINGS}
use Rattle.roster_model.specs.Costs.{total}
use Rattle.roster_model.proofs.CostLemmas.{total-nil, total-cons, total-append}
use Rattle.roster_cost.specs.Amounts.{IsWithin}
use Rattle.roster_search_regions.specs.declared.choice.TheConstants.{MOST_DUAL_PRICE}
use Rattle.roster_search_regions.specs.declared.sums.Sums.{Sums}
use Rattle.roster_search_regions.specs.Prices.{price_at, ArePrices, AreSums}

-- ---- prices are limited, and so are their sums

pub price-within : (prices : List ℤ) (p : ℕ) → ArePrices prices → IsWithin MOST_DUAL_PRICE (price_at prices p)
price-within prices p are =
    elim (cases_lt p (length prices)) [
      | inl inside ↦ are p (pos 0) inside
      | inr past ↦
          let none : price_at prices p ≡ pos 0 = get_or_past prices p (pos 0) past in
          (omega (arith, ints, none), omega (arith, ints, none))
    ]

prices-within : (prices : List ℤ) (path : List ℕ) → ArePrices prices
    → IsWithin (length path * MOST_DUAL_PRICE) (total (price_at prices) path)
prices-within prices [] are =
    (omega (arith, ints, total-nil (price_at prices)), omega (arith, ints, total-nil (price_at prices)))
prices-within prices (p ∷ path) are =
    let rest = prices-within prices path are in
    let here = price-within prices p are in
    (omega (arith, ints, total-cons (price_at prices) p path, here.0, rest.0), omega (arith, ints, total-cons (price_at prices) p path, here.1, rest.1))

pub sum-within : (prices : List ℤ) (sums : Sums) (path : List ℕ) (j : ℕ) → ArePrices prices
    → AreSums prices sums path → j ≤ length path
    → IsWithin (MOST_PAIRINGS * MOST_DUAL_PRICE) (get_or sums.sums j (pos 0))
sum-within prices sums path j are known inside =
    let bound = prices-within prices (take j path) are in
    let long : length (take j path) ≤ MOST_PAIRINGS =
    omega (arith, length-take-le j path inside, known.few) in
    let is = known.each j inside in
    (omega (arith, ints, is, bound.0, long), omega (arith, ints, is, bound.1, long))

-- ---- the next choice

pub AreSums-root : (prices sums : List ℤ) → get_or sums 0 (pos 0) ≡ pos 0
    → AreSums prices (record { sums = sums; length = 0 }) []
AreSums-root prices sums none = record {
  whole = refl;
  few = omega arith;
  each = λ j inside.
      let root : j ≡ 0 = omega arith in
      ap (λ i. get_or sums i (pos 0)) root ∙ none ∙ sym (total-nil (price_at prices))
      ∙ ap (λ i. total (price_at prices) (take i [])) (sym root);
}

-- the sums along a path with one pairing more
pub AreSums-step : (prices : List ℤ) (sums : Sums) (path : List ℕ) (last at : ℕ) (sum : ℤ) → AreSums prices sums path → at ≤ length path → at < MOST_PAIRINGS → at + 1 < length sums.sums → sum ≡ get_or sums.sums at (pos 0) +ℤ price_at prices last → AreSums prices (record { sums = set sums.sums (at + 1) sum; length = at + 1 }) (take at path ++ last ∷ [])
AreSums-step prices sums path last at sum known inside few room is =
    let long : length (take at path) ≡ at = length-take-le at path inside in
    let longer : length (take at path ++ last ∷ []) ≡ at + 1 =
    omega (arith, long, length_push (take at path) last) in
    record {
      whole = sym longer;
      few = omega (arith, longer);
      each = λ j reached. elim (cases_lt at j) [
        | inl end ↦
            let last_one : j ≡ at + 1 = omega (arith, longer) in
            let both = total-append (price_at prices) (take at path) (last ∷ []) in
            let one = total-cons (price_at prices) last [] in
            let none = total-nil (price_at prices) in
            let all : total (price_at prices) (take at path ++ last ∷ []) ≡ sum =
            omega (arith, ints, both, one, none, is, known.each at inside) in
            ap (λ i. get_or (set sums.sums (at + 1) sum) i (pos 0)) last_one
            ∙ get_or-set_same sums.sums (at + 1) sum (pos 0) room
            ∙ sym all
            ∙ ap (total (price_at prices)) (sym (take_all j (take at path ++ last ∷ []) (omega (arith, longer))))
        | inr before ↦
            let other : j ≡ at + 1 → ⊥ = λ e. omega arith in
            get_or-set_other sums.sums (at + 1) j sum (pos 0) other
            ∙ known.each j (omega arith)
            ∙ ap (total (price_at prices)) (sym (take-append-le j (take at path) (last ∷ []) (omega (arith, long)) ∙ take-take j at path before))
      ];
    }
