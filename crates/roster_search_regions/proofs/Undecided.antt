-- Of how many pairings it isn't said whether they are open.
use Rattle.std.proofs.Common.{◌≡◌, ℕ, zero, suc, ◌+◌, ◌<◌, ◌≤◌, Bool, true, false, not, cond, ◌||◌, eqb, List, refl, sym, ap, ◌∙◌, inl, inr, arith}
use Rattle.std.specs.List.{count_by, range_with_len}
use Rattle.std.proofs.lemmas.Bool.{cases_eq}
use Rattle.std.proofs.lemmas.List.Sums.{sum_by-cons, sum_by-le-sum_by}
use Rattle.roster_model.specs.declared.limits.TheConstants.{MOST_PAIRINGS}
use Rattle.roster_model.specs.Rules.{is_among}
use Rattle.roster_search_regions.specs.Regions.{size_of, undecided_in, IsUndecidedAt, Region}

-- ---- a count of fewer numbers

one_le : (b c : Bool) → (b ≡ true → c ≡ true) → cond b 1 0 ≤ cond c 1 0
one_le false c all = omega arith
one_le true c all = rw (all refl) (omega arith)

pub count-le : (P Q : ℕ → Bool) (xs : List ℕ) → ((x : ℕ) → P x ≡ true → Q x ≡ true)
    → count_by P xs ≤ count_by Q xs
count-le P Q xs all =
    sum_by-le-sum_by (λ x. cond (P x) 1 0) (λ x. cond (Q x) 1 0) xs (λ x. one_le (P x) (Q x) (all x))

pub count-lt : (P Q : ℕ → Bool) (p first n : ℕ) → ((x : ℕ) → P x ≡ true → Q x ≡ true) → first ≤ p
    → p < first + n → P p ≡ false → Q p ≡ true
    → count_by P (range_with_len first n) < count_by Q (range_with_len first n)
count-lt P Q p first zero all low high fails passes = absurd (omega arith)
count-lt P Q p first (suc n) all low high fails passes =
    let rest = range_with_len (first + 1) n in
    let fewer = sum_by-cons (λ x. cond (P x) 1 0) first rest in
    let more = sum_by-cons (λ x. cond (Q x) 1 0) first rest in
    elim (cases_eq p first) [
      | inl same ↦
          let none = ap {B = ℕ} (λ (b : Bool). cond b 1 0) (ap P (sym same) ∙ fails) in
          let one = ap {B = ℕ} (λ (b : Bool). cond b 1 0) (ap Q (sym same) ∙ passes) in
          omega (arith, fewer, more, none, one, count-le P Q rest all)
      | inr other ↦
          omega (arith, fewer, more, one_le (P first) (Q first) (all first), count-lt P Q p (first + 1) n all (omega arith) (omega arith) fails passes)
    ]

-- ---- one pairing more that must be open, or that must not

not_either : (a b c : Bool) → not ((a || c) || b) ≡ true → not (a || b) ≡ true
not_either true b c h = h
not_either false true true h = h
not_either false true false h = h
not_either false false c h = refl

not_either' : (a b c : Bool) → not (a || (b || c)) ≡ true → not (a || b) ≡ true
not_either' true b c h = h
not_either' false true c h = h
not_either' false false c h = refl

either_false : (a b : Bool) → a ≡ false → b ≡ false → not (a || b) ≡ true
either_false a b e f = rw (e, f) refl

not_first : (a b : Bool) → a ≡ true → not (a || b) ≡ false
not_first a b e = rw e refl

not_second : (a b : Bool) → b ≡ true → not (a || b) ≡ false
not_second true b e = refl
not_second false b e = rw e refl

pub undecided_left_open : (left flown next : List ℕ) (p : ℕ)
    → ((q : ℕ) → is_among next q ≡ (is_among left q || eqb p q))
    → undecided_in next flown ≤ undecided_in left flown
unfolding undecided_in
undecided_left_open left flown next p members =
    count-le (λ q. not (is_among next q || is_among flown q)) (λ q. not (is_among left q || is_among flown q))
    (range_with_len 0 MOST_PAIRINGS)
    (λ q here. not_either (is_among left q) (is_among flown q) (eqb p q) (ap (λ b. not (b || is_among flown q)) (sym (members q)) ∙ here))

pub undecided_flown : (left flown next : List ℕ) (p : ℕ)
    → ((q : ℕ) → is_among next q ≡ (is_among flown q || eqb p q))
    → undecided_in left next ≤ undecided_in left flown
unfolding undecided_in
undecided_flown left flown next p members =
    count-le (λ q. not (is_among left q || is_among next q)) (λ q. not (is_among left q || is_among flown q))
    (range_with_len 0 MOST_PAIRINGS)
    (λ q here. not_either' (is_among left q) (is_among flown q) (eqb p q) (ap (λ b. not (is_among left q || b)) (sym (members q)) ∙ here))

fewer_left_in : (left flown next : List ℕ) (p : ℕ) → p < MOST_PAIRINGS
    → ((q : ℕ) → is_among next q ≡ (is_among left q || eqb p q)) → is_among next p ≡ true
    → is_among left p ≡ false → is_among flown p ≡ false → undecided_in next flown < undecided_in left flown
unfolding undecided_in
fewer_left_in left flown next p inside members last fails never =
    count-lt (λ q. not (is_among next q || is_among flown q)) (λ q. not (is_among left q || is_among flown q)) p 0 MOST_PAIRINGS
    (λ q here. not_either (is_among left q) (is_among flown q) (eqb p q) (ap (λ b. not (b || is_among flown q)) (sym (members q)) ∙ here))
    (omega arith) (omega arith) (not_first (is_among next p) (is_among flown p) last)
    (either_false (is_among left p) (is_among flown p) fails never)

fewer_flown_in : (left flown next : List ℕ) (p : ℕ) → p < MOST_PAIRINGS
    → ((q : ℕ) → is_among next q ≡ (is_among flown q || eqb p q)) → is_among next p ≡ true
    → is_among left p ≡ false → is_among flown p ≡ false → undecided_in left next < undecided_in left flown
unfolding undecided_in
fewer_flown_in left flown next p inside members last fails never =
    count-lt (λ q. not (is_among left q || is_among next q)) (λ q. not (is_among left q || is_among flown q)) p 0 MOST_PAIRINGS
    (λ q here. not_either' (is_among left q) (is_among flown q) (eqb p q) (ap (λ b. not (is_among left q || b)) (sym (members q)) ∙ here))
    (omega arith) (omega arith) (not_second (is_among left p) (is_among next p) last)
    (either_false (is_among left p) (is_among flown p) fails never)

-- less is left to decide where that wasn't said before
pub fewer_left_open : (region : Region) (p : ℕ) (next : List ℕ) → p < MOST_PAIRINGS
    → ((q : ℕ) → is_among next q ≡ (is_among region.left_open q || eqb p q)) → is_among next p ≡ true
    → IsUndecidedAt region p → size_of (record region { left_open = next }) < size_of region
fewer_left_open region p next inside members last undecided =
    omega (arith, fewer_left_in region.left_open region.flown next p inside members last undecided.left_open undecided.flown)

pub fewer_flown : (region : Region) (p : ℕ) (next : List ℕ) → p < MOST_PAIRINGS
    → ((q : ℕ) → is_among next q ≡ (is_among region.flown q || eqb p q)) → is_among next p ≡ true
    → IsUndecidedAt region p → size_of (record region { flown = next }) < size_of region
fewer_flown region p next inside members last undecided =
    omega (arith, fewer_flown_in region.left_open region.flown next p inside members last undecided.left_open undecided.flown)
