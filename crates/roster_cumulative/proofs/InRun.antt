-- Runs of days, from one to the next, and limits of them.
use Rattle.std.proofs.Common.{◌≡◌, Bool, ℕ, ◌+◌, ◌-◌, ◌*◌, ◌≤◌, List, [], ◌∷◌, length, get_or, map, max, sym, ap, ◌∙◌, arith}
use Rattle.std.specs.Prelude.{◌↔◌, IsTrue, All}
use Rattle.std.specs.List.{range_with_len, fold, sum_by}
use Rattle.std.proofs.lemmas.List.Elements.{All-head, All-tail, All-nil, All-cons}
use Rattle.std.proofs.lemmas.List.FromFn.{map-range_with_len_more, length-range_with_len}
use Rattle.std.proofs.lemmas.List.Sums.{sum_by-cons, sum_by-le, fold_push}
use Rattle.roster_model.proofs.SumLemmas.{sum_by-range_more}
use Rattle.roster_model.specs.Calendar.{Days}
use Rattle.roster_model.specs.Rules.Limits.{KeepsLimit}
use Rattle.roster_model.specs.Sums.{in_run, greatest_run, judged_days}
use Rattle.roster_model.proofs.LimitLemmas.{KeepsLimit-lighter}

-- the next run has a day more at its end, and lacks the first
pub next_run : (f : ℕ → ℕ) (n last : ℕ) → n ≤ last → sum_by f (range_with_len (last - n) n) + f last ≡ f (last - n) + sum_by f (range_with_len (last + 1 - n) n)
next_run f n last within =
    let first : last - n + 1 ≡ last + 1 - n = omega arith in
    sym (sum_by-range_more f (last - n) n last (omega arith))
    ∙ sum_by-cons f (last - n) (range_with_len (last - n + 1) n)
    ∙ ap (λ (k : ℕ). f (last - n) + sum_by f (range_with_len k n)) first

-- days that each have at most m
pub sum_by-range-le : (f : ℕ → ℕ) (m first n : ℕ) → ((i : ℕ) → f i ≤ m)
    → sum_by f (range_with_len first n) ≤ n * m
sum_by-range-le f m first n light =
    let long : length (range_with_len first n) ≡ n = length-range_with_len first n in
    let all : All (λ i. f i ≤ m) (range_with_len first n) =
    λ k d inside. light (get_or (range_with_len first n) k d) in
    let sum = sum_by-le f m (range_with_len first n) all in
    rw long at sum

-- the most of the runs up to one, and of the next run
pub greatest-more : (f : ℕ → ℕ) (first last best : ℕ) → first ≤ last
    → best ≡ fold max 0 (map f (range_with_len first (last - first)))
    → max best (f last) ≡ fold max 0 (map f (range_with_len first (last + 1 - first)))
greatest-more f first last best after so_far =
    let longer : last + 1 - first ≡ (last - first) + 1 = omega arith in
    rw (so_far, longer, map-range_with_len_more f first (last - first) last (omega arith))
    (sym (fold_push max 0 (map f (range_with_len first (last - first))) (f last)))

-- ---- the most of some numbers

most-within : (h : ℕ → ℕ) (a m : ℕ) (xs : List ℕ) → a ≤ m → All (λ x. h x ≤ m) xs → fold max a (map h xs) ≤ m
most-within h a m [] first all = first
most-within h a m (x ∷ xs) first all =
    let here = All-head (λ x. h x ≤ m) x xs all in
    most-within h (max a (h x)) m xs (omega arith) (All-tail (λ x. h x ≤ m) x xs all)

most-bounds : (h : ℕ → ℕ) (a m : ℕ) (xs : List ℕ) → fold max a (map h xs) ≤ m
    → (a ≤ m) × All (λ x. h x ≤ m) xs
most-bounds h a m [] most = (most, All-nil (λ x. h x ≤ m))
most-bounds h a m (x ∷ xs) most =
    let rest = most-bounds h (max a (h x)) m xs most in
    let both = rest.0 in
    (omega arith, All-cons (λ x. h x ≤ m) x xs (omega arith) rest.1)

pub greatest-within : (f : ℕ → ℕ) (days : Days) (n most : ℕ) → KeepsLimit f days n most
    → greatest_run f days n ≤ most
greatest-within f days n most keeps = most-within (in_run f n) 0 most (judged_days days) (omega arith) keeps

pub greatest-bounds : (f : ℕ → ℕ) (days : Days) (n most : ℕ) → greatest_run f days n ≤ most
    → KeepsLimit f days n most
greatest-bounds f days n most within = (most-bounds (in_run f n) 0 most (judged_days days) within).1

-- ---- where each day has the same

pub KeepsLimit-agree : (f g : ℕ → ℕ) → ((i : ℕ) → f i ≡ g i) → (days : Days) (n most : ℕ)
    → KeepsLimit f days n most → KeepsLimit g days n most
KeepsLimit-agree f g same days n most keeps =
    KeepsLimit-lighter g f (λ i. omega (arith, same i)) days n most keeps

-- so a limit of the one is a limit of the other
pub limit_agrees : (f g : ℕ → ℕ) → ((i : ℕ) → f i ≡ g i) → (days : Days) (n most : ℕ) (test : Bool)
    → (IsTrue test ↔ KeepsLimit f days n most) → (IsTrue test ↔ KeepsLimit g days n most)
limit_agrees f g same days n most test is = (
  λ passed. KeepsLimit-agree f g same days n most (is.0 passed),
  λ keeps. is.1 (KeepsLimit-agree g f (λ i. sym (same i)) days n most keeps),
)
