-- Lists that grow, and rows that say what chains bring at least.
use Rattle.std.proofs.Common.{◌≡◌, ℕ, ◌+◌, ◌-◌, ◌*◌, ◌<◌, ◌≤◌, true, false, List, [], ◌∷◌, ◌++◌, length, get_or, Some, refl, sym, ap, ◌∙◌, subst, inl, inr, arith, ℤ, pos, ◌+ℤ◌, ◌≤ℤ◌, w64, to_z, of_z, FitsSigned, rules}
use Rattle.std.specs.Prelude.{All, slice_get}
use Rattle.std.proofs.lemmas.Bool.{cases_eq, cases_lt, false≢true}
use Rattle.std.proofs.lemmas.Int.{ints, to_z-of_z}
use Rattle.std.proofs.lemmas.List.{get_or_append_left, get_or_push, length_push}
use Rattle.std.proofs.lemmas.List.Elements.{All-nil, All-push, All-weaker}
use Rattle.std.proofs.lemmas.Option.{get_or_from_slice_get, slice_get-get_or, slice_get_within}
use Rattle.roster_model.specs.declared.limits.TheConstants.{MOST_PAIRINGS}
use Rattle.roster_model.specs.Problem.{Problem}
use Rattle.roster_model.specs.Rules.{is_among, IsLegal}
use Rattle.roster_model.proofs.SetLemmas.{is_among-here}
use Rattle.roster_model.proofs.PushLemmas.{each-push}
use Rattle.roster_cost.specs.Amounts.{IsWithin}
use Rattle.roster_plan_bound.specs.declared.network.Network.{Network}
use Rattle.roster_plan_bound.specs.declared.parts.TheConstants.{MOST_LEAST, MOST_TARGET_TERM, MOST_CHAIN_VALUE}
use Rattle.roster_plan_bound.specs.Chains.{chain_value, followers_of, next_state, value_at, IsBehind, IsChain, IsRow, IsTail}
use Rattle.roster_plan_bound.specs.Networks.{AreRows, AreTails, IsNetwork}
use Rattle.roster_plan_bound.proofs.ChainLemmas.{chain-cons, chain-nil, is_among-more, next_inside, single_among, IsChain-cons, IsChain-nil}

-- what is so of each by its place, with one more
pub each_more : {X : Type 0} (P : ℕ → X → Type 0) (d : X) (n : ℕ) (old new : List X) (x : X)
    → new ≡ old ++ x ∷ [] → length old ≡ n → ((i : ℕ) → i < n → P i (get_or old i d)) → P n x → (i : ℕ)
    → i < n + 1 → P i (get_or new i d)
each_more P d n old new x pushed long before here i inside =
    elim (cases_eq i n) [
      | inl same ↦
          let there : get_or new i d ≡ x =
          ap (λ ys. get_or ys i d) pushed ∙ get_or_push old x d i (omega (arith, same, long)) in
          subst (P i) (sym there) (subst (λ j. P j x) (sym same) here)
      | inr other ↦
          let there : get_or new i d ≡ get_or old i d =
          ap (λ ys. get_or ys i d) pushed
          ∙ get_or_append_left old (x ∷ []) d i (omega (arith, other, inside, long)) in
          subst (P i) (sym there) (before i (omega (arith, other, inside)))
    ]

pub within-more : (few many : ℕ) (z : ℤ) → few ≤ many → IsWithin few z → IsWithin many z
within-more few many z l within = (let low = within.0 in omega (arith, ints, low, l), let high = within.1 in omega (arith, ints, high, l))

pub All-within-more : (few many : ℕ) (zs : List ℤ) → few ≤ many → All (IsWithin few) zs
    → All (IsWithin many) zs
All-within-more few many zs l =
    All-weaker (IsWithin few) (IsWithin many) (λ z within. within-more few many z l within) zs

chain_first : (followers : List (List ℕ)) (first : List ℕ) (p : ℕ) (rest : List ℕ)
    → IsChain followers first (p ∷ rest)
    → (is_among first p ≡ true) × IsChain followers (followers_of followers p) rest
unfolding IsChain
chain_first followers first p rest chain = chain

-- a value as a word has it
value_told : (values : List ℤ) (p : ℕ) → All (IsWithin MOST_CHAIN_VALUE) values → p < length values
    → to_z w64 (of_z w64 (value_at values p)) ≡ value_at values p
value_told values p within inside =
    let here : IsWithin MOST_CHAIN_VALUE (value_at values p) = within p (pos 0) inside in
    let fits : FitsSigned w64 (value_at values p) = search rules in
    to_z-of_z w64 (value_at values p) fits

pub value_within : (values : List ℤ) (p : ℕ) → All (IsWithin MOST_CHAIN_VALUE) values → p < length values
    → IsWithin MOST_CHAIN_VALUE (to_z w64 (of_z w64 (value_at values p)))
value_within values p within inside =
    subst (IsWithin MOST_CHAIN_VALUE) (sym (value_told values p within inside)) (within p (pos 0) inside)

-- amounts of a row are small
pub row_small : (problem : Problem) (network : Network) (values : List ℤ) (rows : List (List ℤ)) (i : ℕ)
    (row : List ℤ) → AreRows problem network values rows → length problem.pairings ≤ MOST_PAIRINGS
    → i < length rows → row ≡ get_or rows i row → All (IsWithin MOST_LEAST) row
row_small problem network values rows i row are few inside is =
    let most : ℕ = MOST_TARGET_TERM + length rows * MOST_CHAIN_VALUE in
    subst (All (IsWithin MOST_LEAST)) (sym is)
    (All-within-more most MOST_LEAST (get_or rows i row) (omega (arith, few, are.few)) (are.within i row inside))

-- what a row is lowered to by a pairing, in the words of the network
pub lowered : (values after row : List ℤ) (steps : List ℕ) (long states f p step : ℕ)
    → All (IsWithin MOST_CHAIN_VALUE) values → p < length values → p < length steps
    → step ≡ get_or steps p step → long ≡ states
    → value_at row f ≤ℤ (to_z w64 (of_z w64 (value_at values p)) +ℤ value_at after (next_state long f step))
    → value_at row f ≤ℤ (value_at values p +ℤ value_at after (next_state states f (get_or steps p 0)))
lowered values after row steps long states f p step within inside counted is same bits =
    let through =
    subst (λ v. value_at row f ≤ℤ (v +ℤ value_at after (next_state long f step)))
    (value_told values p within inside) bits in
    let there : step ≡ get_or steps p 0 = is ∙ sym (get_or_from_slice_get steps p (get_or steps p step) 0 (slice_get-get_or steps p step counted)) in
    subst
    (λ n. value_at row f ≤ℤ (value_at values p +ℤ value_at after (next_state n f (get_or steps p 0)))) same
    (subst (λ n. value_at row f ≤ℤ (value_at values p +ℤ value_at after (next_state long f n))) there through)

-- ---- tails

none_behind : (from : ℕ) → IsBehind from []
none_behind from p rest same = absurd (omega (arith, ap length same))

first_behind : (from q : ℕ) (rest : List ℕ) → from ≤ q → IsBehind from (q ∷ rest)
first_behind from q rest l p later same = let here : q ≡ p = ap (λ xs. get_or xs 0 q) same in omega (arith, here, l)

-- behind all pairings there is only the end
pub tail_none : (problem : Problem) (k : ℕ) (network : Network) (values : List ℤ)
    → IsNetwork problem k network → IsTail network values (length problem.pairings) network.terms.items
tail_none problem k network values is = record { covers = refl; below = below }
  where
    below : (f : ℕ) → f < length network.terms.items → (rest : List ℕ)
        → IsChain network.followers.items network.first rest → IsBehind (length problem.pairings) rest
        → value_at network.terms.items f ≤ℤ chain_value network values f rest
    below f inside [] chain behind =
        subst (λ z. value_at network.terms.items f ≤ℤ z) (sym (chain-nil network values f))
        (omega (arith, ints))
    below f inside (q ∷ rest) chain behind =
        let place = ((is.alone q).0 (chain_first network.followers.items network.first q rest chain).0).0 in
        let far = behind q rest refl in
        absurd (omega (arith, place, far))

-- a tail from one place before, where no chain begins
pub tail_same : (network : Network) (values tail : List ℤ) (p : ℕ) → is_among network.first p ≡ false
    → IsTail network values (p + 1) tail → IsTail network values p tail
tail_same network values tail p none is = record { covers = is.covers; below = below }
  where
    below : (f : ℕ) → f < length network.terms.items → (rest : List ℕ)
        → IsChain network.followers.items network.first rest → IsBehind p rest
        → value_at tail f ≤ℤ chain_value network values f rest
    below f inside [] chain behind = is.below f inside [] chain (none_behind (p + 1))
    below f inside (q ∷ rest) chain behind =
        let begins = (chain_first network.followers.items network.first q rest chain).0 in
        elim (cases_eq q p) [
          | inl here ↦ absurd (false≢true (sym none ∙ subst (λ i. is_among network.first i ≡ true) here begins))
          | inr other ↦ is.below f inside (q ∷ rest) chain (first_behind (p + 1) q rest (let far = behind q rest refl in omega (arith, other, far)))
        ]

-- or where one begins, if no state is more than what that pairing leads to
pub tail_more : (network : Network) (values tail longer row : List ℤ) (p : ℕ) → 0 < length network.terms.items
    → IsTail network values (p + 1) tail → IsRow network values (followers_of network.followers.items p) row
    → length longer ≡ length network.terms.items
    → ((f : ℕ) → f < length network.terms.items → value_at longer f ≤ℤ value_at tail f)
    → ((f : ℕ) → f < length network.terms.items → value_at longer f ≤ℤ (value_at values p +ℤ value_at row (next_state (length network.terms.items) f (get_or network.steps.items p 0))))
    → IsTail network values p longer
tail_more network values tail longer row p some is row_is covers kept through =
    record { covers = covers; below = below }
  where
    below : (f : ℕ) → f < length network.terms.items → (rest : List ℕ)
        → IsChain network.followers.items network.first rest → IsBehind p rest
        → value_at longer f ≤ℤ chain_value network values f rest
    below f inside [] chain behind = let before = is.below f inside [] chain (none_behind (p + 1)) in let now = kept f inside in omega (arith, ints, before, now)
    below f inside (q ∷ rest) chain behind =
        elim (cases_eq q p) [
          | inl here ↦
              let onward =
              subst
              (λ i. IsChain network.followers.items (followers_of network.followers.items i) rest) here
              (chain_first network.followers.items network.first q rest chain).1 in
              let next : ℕ = next_state (length network.terms.items) f (get_or network.steps.items p 0) in
              let later = row_is.below next (next_inside (length network.terms.items) f (get_or network.steps.items p 0) some) rest onward in
              let now = through f inside in
              subst (λ i. value_at longer f ≤ℤ chain_value network values f (i ∷ rest)) (sym here)
              (omega (arith, ints, later, now, chain-cons network values f p rest))
          | inr other ↦
              let far = behind q rest refl in
              let before =
              is.below f inside (q ∷ rest) chain
              (first_behind (p + 1) q rest (omega (arith, other, far))) in
              let now = kept f inside in
              omega (arith, ints, before, now)
        ]

-- what may follow a pairing may begin a chain
pub follower_alone : (problem : Problem) (k : ℕ) (network : Network)
    → ((whole part : List ℕ) → ((p : ℕ) → is_among part p ≡ true → is_among whole p ≡ true) → IsLegal problem k whole → IsLegal problem k part)
    → IsNetwork problem k network → (p q : ℕ) → p < length problem.pairings
    → is_among (followers_of network.followers.items p) q ≡ true
    → (p < q) × (q < length problem.pairings) × (is_among network.first q ≡ true)
follower_alone problem k network parts is p q inside among =
    let row : List ℕ = followers_of network.followers.items p in
    let together = (is.followers p row (slice_get-get_or network.followers.items p [] (omega (arith, is.covers, inside))) q).0 among in
    let alone = (is.alone q).1 (together.1, parts (p ∷ q ∷ []) (q ∷ []) (single_among (p ∷ q ∷ []) q (is_among-more p q (q ∷ []) (is_among-here q []))) together.2) in
    (together.0, together.1, alone)

-- one tail more
IsTailOf : Problem → Network → List ℤ → ℕ → List ℤ → Type 0
IsTailOf problem network values i tail =
    i ≤ length problem.pairings → IsTail network values (length problem.pairings - i) tail

pub tails_more : (problem : Problem) (network : Network) (values : List ℤ) (old new : List (List ℤ))
    (tail : List ℤ)
    → AreTails problem network values old → new ≡ old ++ tail ∷ [] → (length old ≤ length problem.pairings → IsTail network values (length problem.pairings - length old) tail)
    → All (IsWithin (MOST_TARGET_TERM + (length old + 1) * MOST_CHAIN_VALUE)) tail → AreTails problem network values new
unfolding IsTailOf
tails_more problem network values old new tail are pushed is within =
    let count : length (old ++ tail ∷ []) ≡ length old + 1 = length_push old tail in
    let each = each-push (IsTailOf problem network values) old tail (λ i t at l. are.each i t l at) is in
    let most : ℕ = MOST_TARGET_TERM + length (old ++ tail ∷ []) * MOST_CHAIN_VALUE in
    let here : MOST_TARGET_TERM + (length old + 1) * MOST_CHAIN_VALUE ≤ most = omega (arith, count) in
    let before : MOST_TARGET_TERM + length old * MOST_CHAIN_VALUE ≤ most = omega (arith, count) in
    subst (AreTails problem network values) (sym pushed) (record {
      each = λ i t l at. each i t at l;
      within = All-push (λ t. All (IsWithin most) t) old tail
          (All-weaker (λ t. All (IsWithin (MOST_TARGET_TERM + length old * MOST_CHAIN_VALUE)) t) (λ t. All (IsWithin most) t) (λ t w. All-within-more _ most t before w) old are.within)
          (All-within-more _ most tail here within);
    })

-- no tails yet
pub tails_none : (problem : Problem) (network : Network) (values : List ℤ)
    → AreTails problem network values []
tails_none problem network values = record {
  each = λ i tail l at. absurd (let inside = slice_get_within [] i tail at in omega arith);
  within = All-nil (λ t. All (IsWithin (MOST_TARGET_TERM + 0 * MOST_CHAIN_VALUE)) t);
}

-- ---- rows

-- A row is no more than chains bring if it is no more than the tail from some place on, and than each first pairing
-- before that with what is behind it.
pub row_is : (problem : Problem) (network : Network) (values : List ℤ) (rows : List (List ℤ)) (first : List ℕ)
    (row tail : List ℤ) (until : ℕ)
    → 0 < length network.terms.items → AreRows problem network values rows → IsTail network values until tail
    → length row ≡ length network.terms.items
    → ((f : ℕ) → f < length network.terms.items → value_at row f ≤ℤ value_at tail f)
    → ((q : ℕ) (behind : List ℤ) → is_among first q ≡ true → q < until → slice_get rows (length problem.pairings - 1 - q) ≡ Some behind
    → (f : ℕ) → f < length network.terms.items → value_at row f ≤ℤ (value_at values q +ℤ value_at behind (next_state (length network.terms.items) f (get_or network.steps.items q 0))))
    → ((q : ℕ) → is_among first q ≡ true → (q < length problem.pairings) × (is_among network.first q ≡ true))
    → ((q : ℕ) → is_among first q ≡ true → q < until → length problem.pairings - 1 - q < length rows)
    → IsRow network values first row
row_is problem network values rows first row tail until some are is covers kept led there done =
    record { covers = covers; below = below }
  where
    below : (f : ℕ) → f < length network.terms.items → (rest : List ℕ)
        → IsChain network.followers.items first rest → value_at row f ≤ℤ chain_value network values f rest
    below f inside [] chain =
        let end =
        is.below f inside [] (IsChain-nil network.followers.items network.first) (none_behind until) in
        let now = kept f inside in
        omega (arith, ints, end, now)
    below f inside (q ∷ rest) chain =
        let begins = chain_first network.followers.items first q rest chain in
        let place = there q begins.0 in
        elim (cases_lt q until) [
          | inl near ↦
              let behind : List ℤ = get_or rows (length problem.pairings - 1 - q) [] in
              let at : slice_get rows (length problem.pairings - 1 - q) ≡ Some behind =
              slice_get-get_or rows (length problem.pairings - 1 - q) [] (done q begins.0 near) in
              let next : ℕ = next_state (length network.terms.items) f (get_or network.steps.items q 0) in
              let later = (are.each q behind place.0 at).below next (next_inside (length network.terms.items) f (get_or network.steps.items q 0) some) rest begins.1 in
              let here = led q behind begins.0 near at f inside in
              omega (arith, ints, later, here, chain-cons network values f q rest)
          | inr far ↦
              let later =
              is.below f inside (q ∷ rest)
              (IsChain-cons network.followers.items network.first q rest place.1 begins.1)
              (first_behind until q rest far) in
              let now = kept f inside in
              omega (arith, ints, later, now)
        ]

-- the row of pairing q
IsRowOf : Problem → Network → List ℤ → ℕ → List ℤ → Type 0
IsRowOf problem network values i row =
    (q : ℕ) → q < length problem.pairings → length problem.pairings - 1 - q ≡ i → IsRow network values (followers_of network.followers.items q) row

-- one row more
pub rows_more : (problem : Problem) (network : Network) (values : List ℤ) (old new : List (List ℤ))
    (row : List ℤ) (p : ℕ)
    → AreRows problem network values old → new ≡ old ++ row ∷ [] → p < length problem.pairings
    → length old ≡ length problem.pairings - 1 - p
    → IsRow network values (followers_of network.followers.items p) row
    → All (IsWithin (MOST_TARGET_TERM + (length old + 1) * MOST_CHAIN_VALUE)) row
    → AreRows problem network values new
unfolding IsRowOf
rows_more problem network values old new row p are pushed inside long is within =
    let count : length (old ++ row ∷ []) ≡ length old + 1 = length_push old row in
    let each = each-push (IsRowOf problem network values) old row
    (λ i r at q below place. are.each q r below (subst (λ j. slice_get old j ≡ Some r) (sym place) at))
    (λ q below place. subst (λ j. IsRow network values (followers_of network.followers.items j) row) (same_place p q (length problem.pairings) (length old) inside below long place) is) in
    let most : ℕ = MOST_TARGET_TERM + length (old ++ row ∷ []) * MOST_CHAIN_VALUE in
    let here : MOST_TARGET_TERM + (length old + 1) * MOST_CHAIN_VALUE ≤ most = omega (arith, count) in
    let before : MOST_TARGET_TERM + length old * MOST_CHAIN_VALUE ≤ most = omega (arith, count) in
    subst (AreRows problem network values) (sym pushed) (record {
      few = omega (arith, are.few, count, inside, long);
      each = λ q r below at. each (length problem.pairings - 1 - q) r at q below refl;
      within = All-push (λ r. All (IsWithin most) r) old row
          (All-weaker (λ r. All (IsWithin (MOST_TARGET_TERM + length old * MOST_CHAIN_VALUE)) r) (λ r. All (IsWithin most) r) (λ r w. All-within-more _ most r before w) old are.within)
          (All-within-more _ most row here within);
    })
  where
    same_place : (p q n i : ℕ) → p < n → q < n → i ≡ n - 1 - p → n - 1 - q ≡ i → p ≡ q
    same_place p q n i inside below long place = omega arith

-- no rows yet
pub rows_none : (problem : Problem) (network : Network) (values : List ℤ) → AreRows problem network values []
rows_none problem network values = record {
  few = omega arith;
  each = λ q row below at. absurd (none_at (length problem.pairings - 1 - q) row at);
  within = All-nil (λ r. All (IsWithin (MOST_TARGET_TERM + 0 * MOST_CHAIN_VALUE)) r);
}
  where
    none_at : (i : ℕ) (row : List ℤ) → slice_get [] i ≡ Some row → ⊥
    none_at i row at = let inside = slice_get_within [] i row at in omega arith
