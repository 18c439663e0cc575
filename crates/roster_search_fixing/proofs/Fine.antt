-- What a roster costs, in parts of a cost unit and at any prices.
use Rattle.std.proofs.Common.{◌≡◌, ℕ, zero, suc, ◌+◌, ◌*◌, Bool, true, false, cond, eqb, List, [], ◌∷◌, length, get_or, drop, ℤ, pos, ◌+ℤ◌, ◌-ℤ◌, ◌*ℤ◌, ◌≤ℤ◌, sym, ap, ◌∙◌, arith}
use Rattle.std.proofs.Math.IntN.{suc_ℤ-*ℤ, zero-*ℤ}
use Rattle.std.specs.Prelude.{option_map, unwrap_or}
use Rattle.std.specs.List.{range_with_len}
use Rattle.std.proofs.lemmas.Int.{ints}
use Rattle.std.proofs.lemmas.List.{drop_all, drop_more}
use Rattle.std.proofs.lemmas.Option.{slice_get-get_or}
use Rattle.roster_model.specs.records.Pairing.{Pairing}
use Rattle.roster_model.specs.Costs.{cost_of, line_cost, total}
use Rattle.roster_model.specs.Places.{open_number, set_of}
use Rattle.roster_model.specs.Problem.{Problem}
use Rattle.roster_model.proofs.CostLemmas.{total-nil, total-cons, total-both}
use Rattle.roster_cost.specs.Priced.{penalties_and_prices, reduced_cost}
use Rattle.roster_search_regions.specs.Regions.{extra_of, idle_cost}
use Rattle.roster_search_regions.specs.Terms.{penalty_at}

-- ---- so many times a number

pub times-plus : (n : ℕ) (a b : ℤ) → pos n *ℤ (a +ℤ b) ≡ pos n *ℤ a +ℤ pos n *ℤ b
times-plus zero a b = omega (arith, ints, zero-*ℤ (a +ℤ b), zero-*ℤ a, zero-*ℤ b)
times-plus (suc n) a b =
    let whole : pos (suc n) *ℤ (a +ℤ b) ≡ pos n *ℤ (a +ℤ b) +ℤ (a +ℤ b) = suc_ℤ-*ℤ (pos n) (a +ℤ b) in
    let left : pos (suc n) *ℤ a ≡ pos n *ℤ a +ℤ a = suc_ℤ-*ℤ (pos n) a in
    let right : pos (suc n) *ℤ b ≡ pos n *ℤ b +ℤ b = suc_ℤ-*ℤ (pos n) b in
    let rest = times-plus n a b in
    cut (pos (suc n) *ℤ (a +ℤ b)) (pos n *ℤ (a +ℤ b)) (pos (suc n) *ℤ a) (pos n *ℤ a) (pos (suc n) *ℤ b)
    (pos n *ℤ b) a b whole left right rest
  where
    cut : (x x' y y' z z' a b : ℤ) → x ≡ x' +ℤ (a +ℤ b) → y ≡ y' +ℤ a → z ≡ z' +ℤ b → x' ≡ y' +ℤ z'
        → x ≡ y +ℤ z
    cut x x' y y' z z' a b e f g h = omega (arith, ints)

-- a greater number as often is no less
pub times-le : (n : ℕ) (a b : ℤ) → a ≤ℤ b → (pos n *ℤ a) ≤ℤ (pos n *ℤ b)
times-le zero a b l = omega (arith, ints, zero-*ℤ a, zero-*ℤ b)
times-le (suc n) a b l =
    let left : pos (suc n) *ℤ a ≡ pos n *ℤ a +ℤ a = suc_ℤ-*ℤ (pos n) a in
    let right : pos (suc n) *ℤ b ≡ pos n *ℤ b +ℤ b = suc_ℤ-*ℤ (pos n) b in
    cut (pos (suc n) *ℤ a) (pos n *ℤ a) (pos (suc n) *ℤ b) (pos n *ℤ b) left right (times-le n a b l)
  where
    cut : (y y' z z' : ℤ) → y ≡ y' +ℤ a → z ≡ z' +ℤ b → y' ≤ℤ z' → y ≤ℤ z
    cut y y' z z' e f h = omega (arith, ints)

times-zero : (n : ℕ) → pos n *ℤ pos 0 ≡ pos 0
times-zero n = ap pos (mul-zero n)
  where
    mul-zero : (n : ℕ) → n * 0 ≡ 0
    mul-zero n = omega arith

total-times : {X : Type 0} (n : ℕ) (f : X → ℤ) (xs : List X)
    → total (λ x. pos n *ℤ f x) xs ≡ pos n *ℤ total f xs
total-times n f [] =
    total-nil (λ x. pos n *ℤ f x) ∙ sym (times-zero n) ∙ ap (λ z. pos n *ℤ z) (sym (total-nil f))
total-times n f (x ∷ xs) =
    total-cons (λ y. pos n *ℤ f y) x xs
    ∙ ap (λ z. pos n *ℤ f x +ℤ z) (total-times n f xs)
    ∙ sym (times-plus n (f x) (total f xs))
    ∙ ap (λ z. pos n *ℤ z) (sym (total-cons f x xs))

total-same : {X : Type 0} (f g : X → ℤ) → ((x : X) → f x ≡ g x) → (xs : List X) → total f xs ≡ total g xs
total-same f g same [] = total-nil f ∙ sym (total-nil g)
total-same f g same (x ∷ xs) =
    omega (arith, ints, total-cons f x xs, total-cons g x xs, same x, total-same f g same xs)

total-none : {X : Type 0} (xs : List X) → total (λ x. pos 0) xs ≡ pos 0
total-none [] = total-nil (λ x. pos 0)
total-none (x ∷ xs) = omega (arith, ints, total-cons (λ y. pos 0) x xs, total-none xs)

-- ---- pairings by their places

-- what the pairing at place p adds
abbrev pub added : Problem → ℕ → (ℕ → ℤ) → List ℕ → ℕ → ℤ
added problem scale price places p =
    cond (eqb (get_or places p 0) (open_number problem)) (pos (scale * penalty_at problem p)) (price p)

by_place : (problem : Problem) (price : ℕ → ℤ) (places : List ℕ) (n i : ℕ) → i + n ≡ length problem.pairings → length places ≡ length problem.pairings → penalties_and_prices price (open_number problem) i (drop i problem.pairings) (drop i places) ≡ total (added problem 1 price places) (range_with_len i n)
by_place problem price places zero i at long =
    let none : drop i problem.pairings ≡ [] = drop_all i problem.pairings (omega arith) in
    ap (λ (ps : List Pairing). penalties_and_prices price (open_number problem) i ps (drop i places)) none
    ∙ sym (total-nil (added problem 1 price places))
by_place problem price places (suc n) i at long =
    let none : Pairing = record { id = []; base = 0; penalty = 0; row = 0 } in
    let pairing : Pairing = get_or problem.pairings i none in
    let x : ℕ = get_or places i 0 in
    let rest = by_place problem price places n (i + 1) (omega arith) long in
    let nobody : ℕ = open_number problem in
    let penalty : 1 * penalty_at problem i ≡ pairing.penalty =
    one_times (penalty_at problem i) ∙ ap (λ o. unwrap_or (option_map (λ (p : Pairing). p.penalty) o) 0) (slice_get-get_or problem.pairings i none (omega arith)) in
    ap (λ (ps : List Pairing). penalties_and_prices price nobody i ps (drop i places))
    (drop_more problem.pairings i none (omega arith))
    ∙ ap (λ (xs : List ℕ). penalties_and_prices price nobody i (pairing ∷ drop (i + 1) problem.pairings) xs) (drop_more places i 0 (omega arith))
    ∙ ap (λ z. cond (eqb x nobody) (pos pairing.penalty) (price i) +ℤ z) rest
    ∙ ap (λ m. cond (eqb x nobody) (pos m) (price i) +ℤ total (added problem 1 price places) (range_with_len (i + 1) n)) (sym penalty)
    ∙ sym (total-cons (added problem 1 price places) i (range_with_len (i + 1) n))
  where
    one_times : (m : ℕ) → 1 * m ≡ m
    one_times m = omega arith

-- by penalties and by prices
added-split : (problem : Problem) (scale : ℕ) (price : ℕ → ℤ) (places : List ℕ) (p : ℕ) → added problem scale price places p ≡ pos scale *ℤ added problem 1 (λ _. pos 0) places p +ℤ added problem 0 price places p
added-split problem scale price places p = go (eqb (get_or places p 0) (open_number problem))
  where
    products : (s m one none : ℕ) → one ≡ m → none ≡ 0 → s * m ≡ s * one + none
    products s m one none e f = rw (e, f) (omega arith)

    cut : (z y : ℤ) → z ≡ pos 0 → y ≡ z +ℤ y
    cut z y e = omega (arith, ints)

    go : (b : Bool) → cond b (pos (scale * penalty_at problem p)) (price p) ≡ pos scale *ℤ cond b (pos (1 * penalty_at problem p)) (pos 0) +ℤ cond b (pos (0 * penalty_at problem p)) (price p)
    go true =
        let one : 1 * penalty_at problem p ≡ penalty_at problem p = omega arith in
        let none : 0 * penalty_at problem p ≡ 0 = omega arith in
        ap pos
        (products scale (penalty_at problem p) (1 * penalty_at problem p) (0 * penalty_at problem p) one none)
    go false = cut (pos scale *ℤ pos 0) (price p) (times-zero scale)

-- the same, of all pairings
total-added : (problem : Problem) (scale : ℕ) (price : ℕ → ℤ) (places : List ℕ) (ps : List ℕ) → total (added problem scale price places) ps ≡ pos scale *ℤ total (added problem 1 (λ _. pos 0) places) ps +ℤ total (added problem 0 price places) ps
total-added problem scale price places ps =
    total-both (added problem scale price places) (λ p. pos scale *ℤ added problem 1 (λ _. pos 0) places p)
    (added problem 0 price places) (added-split problem scale price places) ps
    ∙ ap (λ z. z +ℤ total (added problem 0 price places) ps) (total-times scale (added problem 1 (λ _. pos 0) places) ps)

-- ---- what a roster costs

-- what a line costs more than the empty one, less the prices of its pairings
abbrev pub value_at : Problem → ℕ → (ℕ → ℤ) → List ℕ → ℕ → ℤ
value_at problem scale price places k =
    pos scale *ℤ extra_of problem k (set_of k places) -ℤ total price (set_of k places)

pub fine_split : (problem : Problem) (scale : ℕ) (price : ℕ → ℤ) (places : List ℕ)
    → length places ≡ length problem.pairings
    → ((y : ℕ → ℤ) → cost_of problem places ≡ total (λ k. reduced_cost problem y k (set_of k places)) (range_with_len 0 (length problem.persons)) +ℤ penalties_and_prices y (open_number problem) 0 problem.pairings places)
    → pos scale *ℤ (cost_of problem places -ℤ idle_cost problem) ≡ total (value_at problem scale price places) (range_with_len 0 (length problem.persons)) +ℤ total (added problem scale price places) (range_with_len 0 (length problem.pairings))
unfolding idle_cost
fine_split problem scale price places long law =
    let persons = range_with_len 0 (length problem.persons) in
    let pairings = range_with_len 0 (length problem.pairings) in
    let zero' : ℕ → ℤ = λ _. pos 0 in
    let lines : ℕ → ℤ = λ k. line_cost problem k (set_of k places) in
    let idle : ℕ → ℤ = λ k. line_cost problem k [] in
    let prices : ℕ → ℤ = λ k. total price (set_of k places) in
    let extras : ℕ → ℤ = λ k. extra_of problem k (set_of k places) in
    let penalties : ℤ = total (added problem 1 zero' places) pairings in
    let flown : ℤ = total (added problem 0 price places) pairings in
    let at_none : penalties_and_prices zero' (open_number problem) 0 problem.pairings places ≡ penalties =
    by_place problem zero' places (length problem.pairings) 0 (omega arith) long in
    let at_price : penalties_and_prices price (open_number problem) 0 problem.pairings places
    ≡ pos 1 *ℤ penalties +ℤ flown =
    by_place problem price places (length problem.pairings) 0 (omega arith) long
    ∙ total-added problem 1 price places pairings in
    let unpriced : total (λ k. reduced_cost problem zero' k (set_of k places)) persons ≡ total lines persons =
    total-same (λ k. reduced_cost problem zero' k (set_of k places)) lines
    (λ k. less_none (lines k) (total zero' (set_of k places)) (total-none (set_of k places))) persons in
    let reduced : total lines persons
    ≡ total (λ k. reduced_cost problem price k (set_of k places)) persons +ℤ total prices persons =
    total-both lines (λ k. reduced_cost problem price k (set_of k places)) prices
    (λ k. less_plus (lines k) (prices k)) persons in
    let above : total lines persons ≡ total extras persons +ℤ total idle persons =
    total-both lines extras idle (λ k. less_plus (lines k) (idle k)) persons in
    let scaled : total (λ k. pos scale *ℤ extras k) persons
    ≡ total (value_at problem scale price places) persons +ℤ total prices persons =
    total-both (λ k. pos scale *ℤ extras k) (value_at problem scale price places) prices
    (λ k. less_plus (pos scale *ℤ extras k) (prices k)) persons in
    cut (cost_of problem places) (total lines persons)
    (total (λ k. reduced_cost problem price k (set_of k places)) persons) (total prices persons)
    (total extras persons) (total idle persons) penalties flown
    (total (value_at problem scale price places) persons) (total (added problem scale price places) pairings)
    (law zero' ∙ ap (λ z. z +ℤ penalties_and_prices zero' (open_number problem) 0 problem.pairings places) unpriced ∙ ap (λ z. total lines persons +ℤ z) at_none)
    (law price ∙ ap (λ z. total (λ k. reduced_cost problem price k (set_of k places)) persons +ℤ z) at_price)
    reduced above (sym (total-times scale extras persons) ∙ scaled)
    (total-added problem scale price places pairings)
  where
    less_none : (a b : ℤ) → b ≡ pos 0 → a -ℤ b ≡ a
    less_none a b e = omega (arith, ints)

    less_plus : (a b : ℤ) → a ≡ (a -ℤ b) +ℤ b
    less_plus a b = omega (arith, ints)

    none : (z y : ℤ) → y ≡ pos 0 → y +ℤ z ≡ z
    none z y e = omega (arith, ints)

    one : (z : ℤ) → pos 1 *ℤ z ≡ z
    one z = suc_ℤ-*ℤ (pos 0) z ∙ none z (pos 0 *ℤ z) (zero-*ℤ z)

    sums : (n e o l i c v p f a ne mo : ℤ) → c ≡ l +ℤ o → l ≡ e +ℤ i → ne ≡ v +ℤ p → p ≡ f → a ≡ mo +ℤ f
        → ne +ℤ mo ≡ v +ℤ a
    sums n e o l i c v p f a ne mo h1 h2 h3 h4 h5 = omega (arith, ints)

    matched : (c l r p o f o' : ℤ) → c ≡ l +ℤ o → c ≡ r +ℤ (o' +ℤ f) → l ≡ r +ℤ p → o' ≡ o → p ≡ f
    matched c l r p o f o' h1 h2 h3 h4 = omega (arith, ints)

    cut : (c l r p e i o f v a : ℤ) → c ≡ l +ℤ o → c ≡ r +ℤ (pos 1 *ℤ o +ℤ f) → l ≡ r +ℤ p → l ≡ e +ℤ i
        → pos scale *ℤ e ≡ v +ℤ p → a ≡ pos scale *ℤ o +ℤ f → pos scale *ℤ (c -ℤ i) ≡ v +ℤ a
    cut c l r p e i o f v a h1 h2 h3 h4 h5 h6 =
        let single = one o in
        let both : c -ℤ i ≡ e +ℤ o = omega (arith, ints, h1, h4) in
        let same : p ≡ f = matched c l r p o f (pos 1 *ℤ o) h1 h2 h3 single in
        ap (λ z. pos scale *ℤ z) both ∙ times-plus scale e o
        ∙ sums (pos 0) e o l i c v p f a (pos scale *ℤ e) (pos scale *ℤ o) h1 h4 h5 same h6
