-- Which nights lie between two instants, and how many.
use Rattle.std.proofs.Common.{◌≡◌, ℕ, zero, suc, ◌+◌, ◌-◌, ◌<◌, ◌≤◌, Bool, true, false, cond, [], ◌∷◌, ◌++◌, get_or, length, sym, ap, ◌∙◌, arith}
use Rattle.std.specs.List.{count_by, range_with_len}
use Rattle.std.proofs.lemmas.Bool.{lt-leb}
use Rattle.std.proofs.lemmas.List.Sums.{sum_by_push}
use Rattle.roster_model.proofs.WindowLemmas.{ten-later}
use Rattle.roster_model.specs.Calendar.{Days, IsTable, common}
use Rattle.roster_model.specs.declared.profile.TheConstants.{NIGHT_REST}
use Rattle.roster_model.specs.Rules.Recovery.{holds_night}

-- ---- numbers that pass a test

range-more : (first n next : ℕ) → first + n ≡ next
    → range_with_len first (suc n) ≡ range_with_len first n ++ next ∷ []
range-more first zero next here = let same : first ≡ next = omega arith in ap (λ k. k ∷ []) same
range-more first (suc n) next here = ap (λ ks. first ∷ ks) (range-more (first + 1) n next (omega arith))

-- how many numbers below n pass
abbrev pub count_below : (ℕ → Bool) → ℕ → ℕ
count_below test n = count_by test (range_with_len 0 n)

pub count-more : (test : ℕ → Bool) (n : ℕ) → count_below test (n + 1) ≡ count_below test n + cond (test n) 1 0
count-more test n =
    let next : n + 1 ≡ suc n = omega arith in
    ap (count_below test) next ∙ ap (count_by test) (range-more 0 n n (omega arith))
    ∙ sum_by_push (λ k. cond (test k) 1 0) (range_with_len 0 n) n

pub adds_one : (passes : Bool) → cond passes 1 0 ≤ 1
adds_one true = omega arith
adds_one false = omega arith

count-rises-by : (test : ℕ → Bool) (n m : ℕ) → count_below test n ≤ count_below test (n + m)
count-rises-by test n zero = let same : n + 0 ≡ n = omega arith in rw same (omega arith)
count-rises-by test n (suc m) =
    let next : n + suc m ≡ n + m + 1 = omega arith in
    let more = count-more test (n + m) in
    let before = count-rises-by test n m in
    rw next (omega (arith, more, before))

pub count-rises : (test : ℕ → Bool) (n m : ℕ) → n ≤ m → count_below test n ≤ count_below test m
count-rises test n m order =
    let there : n + (m - n) ≡ m = omega arith in
    rw there at (count-rises-by test n (m - n))

count-same-by : (test : ℕ → Bool) (n m : ℕ) → ((k : ℕ) → n ≤ k → k < n + m → test k ≡ false)
    → count_below test (n + m) ≡ count_below test n
count-same-by test n zero none = let same : n + 0 ≡ n = omega arith in ap (count_below test) same
count-same-by test n (suc m) none =
    let next : n + suc m ≡ n + m + 1 = omega arith in
    let more : ℕ = cond (test (n + m)) 1 0 in
    let last : more ≡ 0 = ap (λ b. cond b 1 0) (none (n + m) (omega arith) (omega arith)) in
    let before = count-same-by test n m (λ k from below. none k from (omega arith)) in
    ap (count_below test) next ∙ count-more test (n + m) ∙ omega (arith, last, before)

-- if none from n on passes
pub count-same : (test : ℕ → Bool) (n m : ℕ) → n ≤ m → ((k : ℕ) → n ≤ k → k < m → test k ≡ false)
    → count_below test m ≡ count_below test n
count-same test n m order none =
    let there : n + (m - n) ≡ m = omega arith in
    ap (count_below test) (sym there)
    ∙ count-same-by test n (m - n) (λ k from below. none k from (omega arith))

-- ---- nights

shares_none_before : (from to ten eight : ℕ) → eight ≤ from → common from to ten eight < NIGHT_REST
shares_none_before from to ten eight h = omega arith

shares_none_after : (from to ten eight : ℕ) → to ≤ ten → common from to ten eight < NIGHT_REST
shares_none_after from to ten eight h = omega arith

-- a night that ends before it is not held,
pub not_held_before : (days : Days) (from to i : ℕ) → get_or days.eight (i + 1) 0 ≤ from
    → holds_night days from to i ≡ false
not_held_before days from to i h =
    lt-leb NIGHT_REST _ (shares_none_before from to (get_or days.ten i 0) (get_or days.eight (i + 1) 0) h)

-- nor is one that begins after it.
pub not_held_after : (days : Days) → IsTable days → (from to i j : ℕ) → i ≤ j → j < length days.eight
    → to ≤ get_or days.ten i 0 → holds_night days from to j ≡ false
not_held_after days table from to i j order within h =
    let later = ten-later days table i j order within in
    lt-leb NIGHT_REST _
    (shares_none_after from to (get_or days.ten j 0) (get_or days.eight (j + 1) 0) (omega (arith, h, later)))
