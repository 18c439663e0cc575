-- What the rosters of a region cost at least, and what those within a cost can have.
use Rattle.std.proofs.Common.{◌≡◌, ℕ, zero, suc, drop, ◌+◌, ◌<◌, ◌≤◌, Bool, true, false, T, cond, eqb, eq-eqb, List, [], ◌∷◌, ◌++◌, length, get_or, Some, ℤ, pos, ◌+ℤ◌, ◌-ℤ◌, ◌*ℤ◌, ◌≤ℤ◌, ◌<ℤ◌, refl, sym, ap, ◌∙◌, subst, inl, inr, arith}
use Rattle.std.specs.Prelude.{Contains, int_le, slice_get}
use Rattle.std.specs.List.{range_with_len}
use Rattle.std.proofs.lemmas.Bool.{both_ways, cases_eq, eqb-true}
use Rattle.std.proofs.lemmas.Int.{ints, by_lt_z}
use Rattle.std.proofs.Math.IntN.{suc_ℤ-*ℤ, zero-*ℤ}
use Rattle.std.proofs.lemmas.List.{drop_all, drop_more, get_or_append_left, get_or_push}
use Rattle.std.proofs.lemmas.List.Sums.{sum_by-cons}
use Rattle.roster_model.proofs.CostLemmas.{total-cons, total-nil}
use Rattle.std.proofs.lemmas.List.Elements.{All-contains}
use Rattle.std.proofs.lemmas.Option.{get_or_from_slice_get, slice_get-get_or}
use Rattle.roster_model.specs.Costs.{cost_of, total}
use Rattle.roster_model.specs.Places.{open_number, set_of}
use Rattle.roster_model.specs.Problem.{Problem}
use Rattle.roster_model.specs.Rules.{is_among}
use Rattle.roster_cost.specs.Priced.{penalties_and_prices, reduced_cost}
use Rattle.roster_search_regions.specs.Prices.{price_at, value_of}
use Rattle.roster_search_regions.specs.Regions.{extra_of, lines_of, open_in, AllowedLine, IsAllowedLine, IsIn, IsRegion, Region}
use Rattle.roster_search_regions.proofs.RegionLemmas.{chosen_line, lines_of_get}
use Rattle.roster_search_regions.specs.Terms.{fine_penalty, open_cost, paid_in, term_of}
use Rattle.roster_search_fixing.specs.Bounds.{bound_of, fine_cost, share_of, value_in, AreLeastValues, AreTerms, CostsAtMost, IsAllAbove, IsSlack}
use Rattle.roster_search_fixing.proofs.Fine.{added, fine_split, times-le}
use Rattle.roster_search_fixing.proofs.Totals.{total-by_place, total-gap, total-le}

-- the law of priced shares, at one roster
abbrev pub IsPriced : Problem → List ℕ → Type 0
IsPriced problem places =
    (y : ℕ → ℤ) → cost_of problem places ≡ total (λ k. reduced_cost problem y k (set_of k places)) (range_with_len 0 (length problem.persons)) +ℤ penalties_and_prices y (open_number problem) 0 problem.pairings places

-- a roster's line of person k has the value that goes with its set
pub value_is : (problem : Problem) (region : Region) (prices : List ℤ) (places : List ℕ) (k : ℕ) (line : AllowedLine) → IsRegion problem region → k < length region.choices → Contains (lines_of region k) line → line.set ≡ set_of k places → value_of prices line ≡ value_in problem region prices places k
value_is problem region prices places k line is inside among same =
    let known =
    All-contains (IsAllowedLine problem region.scale k) (lines_of region k) line
    (is.each k (lines_of region k) (lines_of_get region k inside)) among in
    ap (λ z. z -ℤ total (price_at prices) line.set) known.extra
    ∙ ap (λ set. pos region.scale *ℤ extra_of problem k set -ℤ total (price_at prices) set) same

-- and no less than the person's least
least_below : (problem : Problem) (region : Region) (prices values : List ℤ) (places : List ℕ) (k : ℕ)
    → IsRegion problem region → AreLeastValues problem region prices values → IsIn problem region places
    → k < length problem.persons → get_or values k (pos 0) ≤ℤ value_in problem region prices places k
least_below problem region prices values places k is least_are there person =
    let inside : k < length region.choices = omega (arith, is.covers) in
    let found = chosen_line problem region places k there inside in
    let least =
    All-contains (λ line. get_or values k (pos 0) ≤ℤ value_of prices line) (lines_of region k) found.0
    (least_are.least k person) found.1 in
    let value = value_is problem region prices places k found.0 is inside found.1 found.2 in
    omega (arith, ints, least, value)

T-true : (b : Bool) → b ≡ true → T b
T-true b e = subst T (sym e) tt

true-T : (b : Bool) → T b → b ≡ true
true-T true t = refl
true-T false t = absurd t

-- what the test tells
pub int_le-true : (a b : ℤ) → int_le a b ≡ true → a ≤ℤ b
int_le-true a b e = record { le = T-true (int_le a b) e }

pub true-int_le : (a b : ℤ) → a ≤ℤ b → int_le a b ≡ true
true-int_le a b l = true-T (int_le a b) l.le

int_le-false : (a b : ℤ) → int_le a b ≡ false → b ≤ℤ a
int_le-false a b e =
    by_lt_z b a (λ l. omega (arith, ints)) (λ l. absurd (both_ways (int_le a b) e (true-int_le a b l)))

-- what a pairing adds is no less than its term
term_below : (problem : Problem) (region : Region) (prices : List ℤ) (paid : ℤ) (places : List ℕ) (p : ℕ)
    → IsIn problem region places → p < length problem.pairings
    → term_of problem region prices paid p ≤ℤ share_of problem region prices paid places p
term_below problem region prices paid places p there inside =
    let nobody : ℕ = open_number problem in
    let penalty : ℤ = open_cost problem region paid p in
    let price : ℤ = price_at prices p in
    let at : slice_get places p ≡ Some (get_or places p 0) =
    slice_get-get_or places p 0 (omega (arith, there.legal.covers)) in
    go (is_among region.left_open p) (is_among region.flown p) (int_le price penalty)
    (eqb (get_or places p 0) nobody) refl refl refl refl
    (λ e. ne_open (there.left_open p e) at)
    (λ e here. there.flown p e (at ∙ ap Some (eqb-true (get_or places p 0) nobody here)))
  where
    ne_open : slice_get places p ≡ Some (open_number problem) → slice_get places p ≡ Some (get_or places p 0)
        → eqb (get_or places p 0) (open_number problem) ≡ true
    ne_open e at =
        eq-eqb (get_or places p 0) (open_number problem)
        (get_or_from_slice_get places p (open_number problem) 0 e)

    go : (o f l x : Bool) → is_among region.left_open p ≡ o → is_among region.flown p ≡ f
        → int_le (price_at prices p) (open_cost problem region paid p) ≡ l
        → eqb (get_or places p 0) (open_number problem) ≡ x
        → (is_among region.left_open p ≡ true → eqb (get_or places p 0) (open_number problem) ≡ true)
        → (is_among region.flown p ≡ true → eqb (get_or places p 0) (open_number problem) ≡ true → ⊥)
        → cond o (open_cost problem region paid p) (cond f (price_at prices p) (cond l (price_at prices p) (open_cost problem region paid p))) ≤ℤ cond x (open_cost problem region paid p) (price_at prices p)
    go true f l true eo ef el ex left flown = omega (arith, ints)
    go true f l false eo ef el ex left flown =
        absurd (both_ways (eqb (get_or places p 0) (open_number problem)) ex (left eo))
    go false true l true eo ef el ex left flown = absurd (flown ef ex)
    go false true l false eo ef el ex left flown = omega (arith, ints)
    go false false true true eo ef el ex left flown =
        int_le-true (price_at prices p) (open_cost problem region paid p) el
    go false false true false eo ef el ex left flown = omega (arith, ints)
    go false false false true eo ef el ex left flown = omega (arith, ints)
    go false false false false eo ef el ex left flown =
        int_le-false (price_at prices p) (open_cost problem region paid p) el

-- ---- what open pairings are paid

more-times : (m n : ℕ) (z : ℤ) → m ≤ n → pos 0 ≤ℤ z → (pos m *ℤ z) ≤ℤ (pos n *ℤ z)
more-times m zero z less some =
    let none : m ≡ 0 = omega arith in
    rw none (omega (arith, ints))
more-times m (suc n) z less some =
    let next : pos (suc n) *ℤ z ≡ pos n *ℤ z +ℤ z = suc_ℤ-*ℤ (pos n) z in
    elim (cases_eq m (suc n)) [
      | inl same ↦ rw same (omega (arith, ints))
      | inr other ↦ let rest = more-times m n z (omega arith) some in omega (arith, ints, next, rest, some)
    ]

fewer-times : (m n : ℕ) (z : ℤ) → m ≤ n → z ≤ℤ pos 0 → (pos n *ℤ z) ≤ℤ (pos m *ℤ z)
fewer-times m zero z less none =
    let zero' : m ≡ 0 = omega arith in
    rw zero' (omega (arith, ints))
fewer-times m (suc n) z less none =
    let next : pos (suc n) *ℤ z ≡ pos n *ℤ z +ℤ z = suc_ℤ-*ℤ (pos n) z in
    elim (cases_eq m (suc n)) [
      | inl same ↦ rw same (omega (arith, ints))
      | inr other ↦ let rest = fewer-times m n z (omega arith) none in omega (arith, ints, next, rest, none)
    ]

-- in all they are paid no less than the region says
paid_below : (region : Region) (paid : ℤ) (n : ℕ) → region.least_open ≤ n → n ≤ region.most_open
    → paid_in region paid ≤ℤ (pos n *ℤ paid)
paid_below region paid n low high = go (int_le (pos 0) paid) refl
  where
    go : (b : Bool) → int_le (pos 0) paid ≡ b
        → cond b (pos region.least_open *ℤ paid) (pos region.most_open *ℤ paid) ≤ℤ (pos n *ℤ paid)
    go true e = more-times region.least_open n paid low (int_le-true (pos 0) paid e)
    go false e = fewer-times n region.most_open paid high (int_le-false (pos 0) paid e)

-- what they are paid is the difference to their penalties
shares_paid : (problem : Problem) (region : Region) (prices : List ℤ) (paid : ℤ) (places : List ℕ) (n i : ℕ) → i + n ≡ length places → total (added problem region.scale (price_at prices) places) (range_with_len i n) ≡ total (share_of problem region prices paid places) (range_with_len i n) +ℤ pos (open_in problem (drop i places)) *ℤ paid
shares_paid problem region prices paid places zero i at =
    let none : drop i places ≡ [] = drop_all i places (omega arith) in
    let no_one : open_in problem (drop i places) ≡ 0 = ap (open_in problem) none in
    let nothing : pos (open_in problem (drop i places)) *ℤ paid ≡ pos 0 =
    ap (λ m. pos m *ℤ paid) no_one ∙ zero-*ℤ paid in
    omega (arith, ints, total-nil (added problem region.scale (price_at prices) places), total-nil (share_of problem region prices paid places), nothing)
shares_paid problem region prices paid places (suc n) i at =
    let x : ℕ = get_or places i 0 in
    let rest : List ℕ = drop (i + 1) places in
    let is_open : ℕ → Bool = λ place. eqb place (open_number problem) in
    let more = shares_paid problem region prices paid places n (i + 1) (omega arith) in
    let split : open_in problem (drop i places) ≡ cond (is_open x) 1 0 + open_in problem rest =
    ap (open_in problem) (drop_more places i 0 (omega arith))
    ∙ sum_by-cons (λ place. cond (is_open place) 1 0) x rest in
    let first = total-cons (added problem region.scale (price_at prices) places) i (range_with_len (i + 1) n) in
    let second = total-cons (share_of problem region prices paid places) i (range_with_len (i + 1) n) in
    go (is_open x) refl split first second more
  where
    go : (b : Bool) → eqb (get_or places i 0) (open_number problem) ≡ b
        → open_in problem (drop i places) ≡ cond b 1 0 + open_in problem (drop (i + 1) places)
        → total (added problem region.scale (price_at prices) places) (range_with_len i (suc n)) ≡ cond b (fine_penalty problem region i) (price_at prices i) +ℤ total (added problem region.scale (price_at prices) places) (range_with_len (i + 1) n)
        → total (share_of problem region prices paid places) (range_with_len i (suc n)) ≡ cond b (open_cost problem region paid i) (price_at prices i) +ℤ total (share_of problem region prices paid places) (range_with_len (i + 1) n)
        → total (added problem region.scale (price_at prices) places) (range_with_len (i + 1) n) ≡ total (share_of problem region prices paid places) (range_with_len (i + 1) n) +ℤ pos (open_in problem (drop (i + 1) places)) *ℤ paid
        → total (added problem region.scale (price_at prices) places) (range_with_len i (suc n)) ≡ total (share_of problem region prices paid places) (range_with_len i (suc n)) +ℤ pos (open_in problem (drop i places)) *ℤ paid
    go true e split first second more =
        let one : open_in problem (drop i places) ≡ suc (open_in problem (drop (i + 1) places)) =
        omega (arith, split) in
        let next = ap (λ m. pos m *ℤ paid) one ∙ suc_ℤ-*ℤ (pos (open_in problem (drop (i + 1) places))) paid in
        omega (arith, ints, first, second, more, next)
    go false e split first second more =
        let same = ap (λ m. pos m *ℤ paid) split in
        omega (arith, ints, first, second, more, same)

-- what a roster costs, by what its lines and its pairings add, and what open ones are paid
pub fine_shares : (problem : Problem) (region : Region) (prices : List ℤ) (paid : ℤ) (places : List ℕ)
    → IsRegion problem region → IsIn problem region places → IsPriced problem places
    → fine_cost problem region places ≡ (total (value_in problem region prices places) (range_with_len 0 (length problem.persons)) +ℤ total (share_of problem region prices paid places) (range_with_len 0 (length problem.pairings))) +ℤ pos (open_in problem places) *ℤ paid
fine_shares problem region prices paid places is there law =
    let persons = range_with_len 0 (length problem.persons) in
    let pairings = range_with_len 0 (length problem.pairings) in
    let whole : fine_cost problem region places ≡ total (value_in problem region prices places) persons +ℤ total (added problem region.scale (price_at prices) places) pairings =
    ap (λ idle. pos region.scale *ℤ (cost_of problem places -ℤ idle)) is.idle
    ∙ fine_split problem region.scale (price_at prices) places there.legal.covers law in
    let split = shares_paid problem region prices paid places (length problem.pairings) 0 (omega (arith, there.legal.covers)) in
    omega (arith, ints, whole, split)

-- no less than the bound
pub fine_above : (problem : Problem) (region : Region) (prices : List ℤ) (paid : ℤ) (places : List ℕ)
    → IsRegion problem region → IsIn problem region places → IsPriced problem places
    → ((total (value_in problem region prices places) (range_with_len 0 (length problem.persons)) +ℤ total (share_of problem region prices paid places) (range_with_len 0 (length problem.pairings))) +ℤ paid_in region paid) ≤ℤ fine_cost problem region places
fine_above problem region prices paid places is there law =
    let whole = fine_shares problem region prices paid places is there law in
    let below = paid_below region paid (open_in problem places) there.least_open there.most_open in
    omega (arith, ints, whole, below)

-- a term is no more than what its pairing adds
stored_below : (problem : Problem) (region : Region) (prices : List ℤ) (paid : ℤ) (terms : List ℤ) (places : List ℕ) (p : ℕ)
    → AreTerms problem region prices paid terms → IsIn problem region places → p < length problem.pairings
    → get_or terms p (pos 0) ≤ℤ share_of problem region prices paid places p
stored_below problem region prices paid terms places p are there inside =
    subst (λ z. z ≤ℤ share_of problem region prices paid places p) (sym (are.term p inside))
    (term_below problem region prices paid places p there inside)

-- no roster of the region costs less than the bound
pub costs_at_least : (problem : Problem) (region : Region) (prices : List ℤ) (paid : ℤ) (values terms : List ℤ) (places : List ℕ)
    → IsRegion problem region → AreLeastValues problem region prices values
    → AreTerms problem region prices paid terms → IsPriced problem places → IsIn problem region places
    → (bound_of values terms +ℤ paid_in region paid) ≤ℤ fine_cost problem region places
costs_at_least problem region prices paid values terms places is least_are terms_are law there =
    let whole = fine_above problem region prices paid places is there law in
    let listed = total-by_place values (length problem.persons) least_are.covers in
    let listed' = total-by_place terms (length problem.pairings) terms_are.covers in
    let lines =
    total-le (λ k. get_or values k (pos 0)) (value_in problem region prices places) 0
    (length problem.persons)
    (λ k low high. least_below problem region prices values places k is least_are there (omega arith)) in
    let shares =
    total-le (λ p. get_or terms p (pos 0)) (share_of problem region prices paid places) 0
    (length problem.pairings)
    (λ p low high. stored_below problem region prices paid terms places p terms_are there (omega arith)) in
    omega (arith, ints, whole, listed, listed', lines, shares)

-- what is within a cost is within so many parts of it
pub fine_within : (problem : Problem) (region : Region) (most limit : ℤ) (places : List ℕ)
    → limit ≡ pos region.scale *ℤ (most -ℤ region.idle) → CostsAtMost problem most places
    → fine_cost problem region places ≤ℤ limit
fine_within problem region most limit places is within =
    let less : (cost_of problem places -ℤ region.idle) ≤ℤ (most -ℤ region.idle) =
    omega (arith, ints, within) in
    let times = times-le region.scale (cost_of problem places -ℤ region.idle) (most -ℤ region.idle) less in
    omega (arith, ints, times, is)

-- a bound above it: every roster costs more
pub all_above : (problem : Problem) (region : Region) (prices : List ℤ) (paid : ℤ) (values terms : List ℤ) (most limit : ℤ)
    → IsRegion problem region → AreLeastValues problem region prices values
    → AreTerms problem region prices paid terms
    → ((places : List ℕ) → IsIn problem region places → IsPriced problem places)
    → limit ≡ pos region.scale *ℤ (most -ℤ region.idle) → limit <ℤ (bound_of values terms +ℤ paid_in region paid)
    → IsAllAbove problem region most
all_above problem region prices paid values terms most limit is least_are terms_are law limit_is above places there =
    by_lt_z most (cost_of problem places) (λ more. more)
    (λ within.
    let least =
    costs_at_least problem region prices paid values terms places is least_are terms_are
    (law places there) there in
    let fine = fine_within problem region most limit places limit_is within in
    absurd (omega (arith, ints, least, fine, above)))

-- and what is left below it is the slack of each line and each pairing
pub slack_is : (problem : Problem) (region : Region) (prices : List ℤ) (paid : ℤ) (values terms : List ℤ) (most limit slack : ℤ)
    → IsRegion problem region → AreLeastValues problem region prices values
    → AreTerms problem region prices paid terms
    → ((places : List ℕ) → IsIn problem region places → IsPriced problem places)
    → limit ≡ pos region.scale *ℤ (most -ℤ region.idle) → slack ≡ limit -ℤ (bound_of values terms +ℤ paid_in region paid)
    → IsSlack problem region prices paid values terms most slack
slack_is problem region prices paid values terms most limit slack is least_are terms_are law limit_is slack_at =
    let gaps : (places : List ℕ) → IsIn problem region places → CostsAtMost problem most places
    → ((k : ℕ) → k < length problem.persons → value_in problem region prices places k ≤ℤ (get_or values k (pos 0) +ℤ slack))
    × ((p : ℕ) → p < length problem.pairings → share_of problem region prices paid places p ≤ℤ (get_or terms p (pos 0) +ℤ slack)) =
    λ places there within.
    let least : ℕ → ℤ = λ k. get_or values k (pos 0) in
    let term : ℕ → ℤ = λ p. get_or terms p (pos 0) in
    let added_values : ℕ → ℤ = value_in problem region prices places in
    let shares : ℕ → ℤ = share_of problem region prices paid places in
    let below_values : (j : ℕ) → 0 ≤ j → j < 0 + length problem.persons → least j ≤ℤ added_values j =
    λ k low high. least_below problem region prices values places k is least_are there (omega arith) in
    let below_shares : (j : ℕ) → 0 ≤ j → j < 0 + length problem.pairings → term j ≤ℤ shares j =
    λ p low high. stored_below problem region prices paid terms places p terms_are there (omega arith) in
    let whole = fine_above problem region prices paid places is there (law places there) in
    let fine = fine_within problem region most limit places limit_is within in
    let listed = total-by_place values (length problem.persons) least_are.covers in
    let listed' = total-by_place terms (length problem.pairings) terms_are.covers in
    let lines = total-le least added_values 0 (length problem.persons) below_values in
    let pairings = total-le term shares 0 (length problem.pairings) below_shares in (
      λ k inside. let gap = total-gap least added_values 0 (length problem.persons) k below_values (omega arith) (omega arith) in omega (arith, ints, gap, whole, fine, listed, listed', pairings, slack_at),
      λ p inside. let gap = total-gap term shares 0 (length problem.pairings) p below_shares (omega arith) (omega arith) in omega (arith, ints, gap, whole, fine, listed, listed', lines, slack_at),
    ) in
    record {
      lines = λ k inside places there within. (gaps places there within).0 k inside;
      pairings = λ p inside places there within. (gaps places there within).1 p inside;
    }

-- what is so of some numbers by their places, with one more
pub more_leasts : (P : ℕ → ℤ → Type 0) (xs new : List ℤ) (x : ℤ) (k : ℕ) → new ≡ xs ++ x ∷ [] → length xs ≡ k
    → ((j : ℕ) → j < k → P j (get_or xs j (pos 0))) → P k x → (j : ℕ) → j < k + 1 → P j (get_or new j (pos 0))
more_leasts P xs new x k pushed long before here j inside =
    elim (cases_eq j k) [
      | inl same ↦
          let there : get_or new j (pos 0) ≡ x =
          ap (λ ys. get_or ys j (pos 0)) pushed ∙ get_or_push xs x (pos 0) j (omega arith) in
          subst (P j) (sym there) (subst (λ i. P i x) (sym same) here)
      | inr other ↦
          let there : get_or new j (pos 0) ≡ get_or xs j (pos 0) =
          ap (λ ys. get_or ys j (pos 0)) pushed
          ∙ get_or_append_left xs (x ∷ []) (pos 0) j (omega arith) in
          subst (P j) (sym there) (before j (omega arith))
    ]
