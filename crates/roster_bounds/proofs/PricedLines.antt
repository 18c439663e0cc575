-- Lines of a table, what they cost, and what their pairings have for prices.
use Rattle.std.proofs.Common.{◌≡◌, ℕ, ◌+◌, ◌*◌, ◌^◌, ◌<◌, ◌≤◌, List, [], ◌∷◌, ◌++◌, length, Some, option_map, w64, to_z, of_z, ℤ, pos, neg_ℤ, ◌+ℤ◌, ◌-ℤ◌, ◌≤ℤ◌, refl, sym, ap, ◌∙◌, subst, inl, inr, arith}
use Rattle.std.specs.Prelude.{All, slice_get, FitsSigned}
use Rattle.std.proofs.lemmas.Bool.{cases_lt}
use Rattle.std.proofs.lemmas.Int.{ints, to_z-of_z}
use Rattle.std.specs.Int.{w128}
use Rattle.std.specs.Int.Signed.{mag}
use Rattle.std.proofs.lemmas.List.{length-map, length-append, get_or_past, get_or_push}
use Rattle.std.proofs.lemmas.Option.{same_Some, slice_get_cases, slice_get_within, slice_get-map, get_or_from_slice_get}
use Rattle.roster_model.specs.declared.limits.TheConstants.{MOST_PERSONS}
use Rattle.roster_model.specs.Problem.{Problem}
use Rattle.roster_model.specs.Costs.{line_cost, total}
use Rattle.roster_model.specs.Lines.{IsLine}
use Rattle.roster_model.proofs.SetLemmas.{length_within}
use Rattle.roster_problem.specs.Sound.{IsSound}
use Rattle.roster_cost.specs.Amounts.{IsWithin, most_units}
use Rattle.roster_cost.proofs.Fits.{total-within, within_more}
use Rattle.roster_lines_table.specs.Entries.{Entry, costs_of, sets_of}
use Rattle.roster_lines_table.specs.Person.{lines_at, IsTableOf}
use Rattle.roster_lines_table.proofs.TableLemmas.{all_lines_in_table, whole_table-at}
use Rattle.roster_bounds.specs.declared.prices.TheConstants.{MOST_PRICE}
use Rattle.roster_bounds.specs.Amounts.{AreReduced, most_prices}
use Rattle.roster_bounds.specs.Chosen.{line_set, price_at}

-- ---- lines of a table

-- each number below the width is that of a line
pub line_is : (problem : Problem) (table : List (List Entry)) (k i : ℕ) → IsTableOf problem table
    → k < length problem.persons → i < length (lines_at table k) → IsLine problem k (line_set table k i)
line_is problem table k i is person inside =
    (all_lines_in_table problem table k is person).some.lines i []
    (omega (arith, length-map (lines_at table k) (λ entry. entry.set)))

-- and each line has a number
pub number_of_line : (problem : Problem) (table : List (List Entry)) (k : ℕ) (set : List ℕ)
    → IsTableOf problem table → k < length problem.persons → IsLine problem k set
    → (i : ℕ) × (i < length (lines_at table k)) × (slice_get (sets_of (lines_at table k)) i ≡ Some set)
number_of_line problem table k set is person line =
    let found = (all_lines_in_table problem table k is person).every set line in
    (found.0, omega (arith, slice_get_within _ found.0 set found.1, length-map (lines_at table k) (λ entry. entry.set)), found.1)

pub line_set-at : (table : List (List Entry)) (k i : ℕ) (set : List ℕ)
    → slice_get (sets_of (lines_at table k)) i ≡ Some set → line_set table k i ≡ set
line_set-at table k i set at = get_or_from_slice_get (sets_of (lines_at table k)) i set [] at

-- the cost of a line is that of its set
pub cost_of_line : (problem : Problem) (table : List (List Entry)) (k i : ℕ) (cost : ℤ)
    → IsTableOf problem table → k < length problem.persons
    → slice_get (costs_of (lines_at table k)) i ≡ Some cost → cost ≡ line_cost problem k (line_set table k i)
cost_of_line problem table k i cost is person at =
    let lines = lines_at table k in
    let costed = is.costs k lines (whole_table-at problem table k is person) in
    let inside : i < length lines =
    omega (arith, slice_get_within (costs_of lines) i cost at, length-map lines (λ entry. entry.cost)) in
    elim (slice_get_cases lines i).1 [
      | inl found ↦
          let entry = found.0 in
          let costs =
          slice_get-map (λ (e : Entry). e.cost) lines i
          ∙ ap (option_map (λ (e : Entry). e.cost)) found.2 in
          let sets =
          slice_get-map (λ (e : Entry). e.set) lines i ∙ ap (option_map (λ (e : Entry). e.set)) found.2 in
          let is_cost = same_Some cost entry.cost (sym at ∙ costs) in
          let same =
          subst (λ (e : Entry). e.cost ≡ line_cost problem k e.set) found.3 (costed i entry inside) in
          is_cost ∙ same ∙ ap (line_cost problem k) (sym (line_set-at table k i entry.set sets))
      | inr past ↦ absurd (omega (arith, past.0))
    ]

-- ---- prices

pub price-within : (prices : List ℤ) (p : ℕ) → All (IsWithin MOST_PRICE) prices
    → IsWithin MOST_PRICE (price_at prices p)
price-within prices p within =
    elim (cases_lt p (length prices)) [
      | inl inside ↦ within p (pos 0) inside
      | inr past ↦ let none : price_at prices p ≡ pos 0 = get_or_past prices p (pos 0) past in (omega (arith, ints, none), omega (arith, ints, none))
    ]

pub prices_of_line : (problem : Problem) (prices : List ℤ) (k : ℕ) (set : List ℕ) → IsSound problem
    → All (IsWithin MOST_PRICE) prices → IsLine problem k set
    → IsWithin most_prices (total (price_at prices) set)
prices_of_line problem prices k set sound within line =
    let few = length_within set (length problem.pairings) line.ascending line.places in
    let all = sound.pairings in
    within_more (length set * MOST_PRICE) most_prices _
    (total-within (price_at prices) MOST_PRICE (λ p. price-within prices p within) set)
    (omega (arith, few, all))

-- ---- reduced costs

pub reduced_fits : (cost sum : ℤ) → neg_ℤ (pos most_units) ≤ℤ cost → (cost -ℤ sum) ≤ℤ pos (2 ^ 64)
    → IsWithin most_prices sum → AreReduced 1 (cost -ℤ sum)
reduced_fits cost sum low high within = record {
  least = omega (arith, ints, low, within.0, within.1);
  most = omega (arith, ints, high);
}

-- the last place of a longer set is one of its places
pub last_within : (set longer : List ℕ) (p n : ℕ) → longer ≡ set ++ p ∷ [] → All (λ q. q < n) longer → p < n
last_within set longer p n is within =
    let all = subst (All (λ q. q < n)) is within in
    let inside : length set < length (set ++ p ∷ []) = omega (arith, length-append set (p ∷ [])) in
    subst (λ q. q < n) (get_or_push set p 0 (length set) refl) (all (length set) 0 inside)

-- ---- words

-- a number that fits a word is that of its bits
pub same_word64 : (z : ℤ) → mag z < 2 ^ 63 → to_z w64 (of_z w64 z) ≡ z
same_word64 z small = let fits : FitsSigned w64 z = record { sfits = small } in to_z-of_z w64 z fits

pub same_word128 : (z : ℤ) → mag z < 2 ^ 127 → to_z w128 (of_z w128 z) ≡ z
same_word128 z small = let fits : FitsSigned w128 z = record { sfits = small } in to_z-of_z w128 z fits

pub same_prices : (z : ℤ) → IsWithin most_prices z → to_z w64 (of_z w64 z) ≡ z
same_prices z within = omega (arith, ints, within.0, within.1)

pub same_reduced : (z : ℤ) → AreReduced 1 z → to_z w128 (of_z w128 z) ≡ z
same_reduced z fits = omega (arith, ints, fits.least, fits.most)

pub same_sum : (a b : ℤ) (count : ℕ) → count ≤ MOST_PERSONS → AreReduced count a → AreReduced 1 b
    → to_z w128 (of_z w128 (to_z w128 (of_z w128 a) +ℤ to_z w128 (of_z w128 b))) ≡ a +ℤ b
same_sum a b count few first second =
    let low = first.least in
    let high = first.most in
    let least = second.least in
    let most = second.most in
    omega (arith, ints, few, low, high, least, most)

pub same_many : (z : ℤ) (count : ℕ) → count ≤ MOST_PERSONS → AreReduced count z → to_z w128 (of_z w128 z) ≡ z
same_many z count few fits =
    let low = fits.least in
    let high = fits.most in
    omega (arith, ints, few, low, high)

pub same_more : (a b : ℤ) (count : ℕ) → count ≤ MOST_PERSONS → AreReduced count a → AreReduced 1 b
    → to_z w128 (of_z w128 (a +ℤ to_z w128 (of_z w128 b))) ≡ a +ℤ b
same_more a b count few first second =
    let low = first.least in
    let high = first.most in
    let least = second.least in
    let most = second.most in
    omega (arith, ints, few, low, high, least, most)

-- so many reduced costs, and one more
pub AreReduced-more : (a b : ℤ) (count : ℕ) → AreReduced count a → AreReduced 1 b
    → AreReduced (count + 1) (a +ℤ b)
AreReduced-more a b count first second =
    let low = first.least in
    let high = first.most in
    let least = second.least in
    let most = second.most in
    record { least = omega (arith, ints, low, least); most = omega (arith, ints, high, most) }
