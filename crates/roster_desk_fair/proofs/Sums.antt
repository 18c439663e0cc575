-- All shares together are the whole, and each is near its part of it.
use Rattle.std.proofs.Common.{◌≡◌, ◌∙◌, ◌<◌, ◌≤◌, ◌+◌, ◌-◌, ◌*◌, ◌/◌, ◌∷◌, ℕ, zero, suc, List, [], Some, ap, arith, subst, sum, sym}
use Rattle.std.specs.Prelude.{slice_get}
use Rattle.std.proofs.Math.Nat.{add-mul, div-mul-le_self, lt-div-mul-add, mul-add, mul-div_left, mul-le-mul_left, mul-zero, zero-div}
use Rattle.std.proofs.lemmas.List.Sums.{sum_by-cons}
use Rattle.std.proofs.lemmas.Nat.{le-div}
use Rattle.std.proofs.lemmas.Option.{none-some, same_Some}
use Rattle.roster_desk_fair.specs.Fair.{IsNear, share_of, shares_from, shares_of}

sum-cons : (x : ℕ) (xs : List ℕ) → sum (x ∷ xs) ≡ x + sum xs
sum-cons x xs = sum_by-cons (λ y. y) x xs

-- more is rounded down to no less
div-up : (a b w : ℕ) → 0 < w → a ≤ b → a / w ≤ b / w
div-up a b w some le =
    let below = div-mul-le_self a w in
    le-div (a / w) b w some (omega arith)

-- what comes up to one weight more is no less
part-up : (flight whole before own : ℕ) → 0 < whole → flight * before / whole ≤ flight * (before + own) / whole
part-up flight whole before own some =
    div-up (flight * before) (flight * (before + own)) whole some (mul-le-mul_left flight (omega arith))

-- one weight more: its share, and what came before
add-share : (a0 a1 s whole : ℕ) → a0 ≤ a1 → s + a1 ≡ whole → a1 - a0 + s + a0 ≡ whole
add-share a0 a1 s whole le same = omega arith

-- the shares of some weights, and what came before them, are what comes up to the last
pub shares-from : (flight whole before : ℕ) (weights : List ℕ) → 0 < whole
    → sum (shares_from flight whole before weights) + flight * before / whole ≡ flight * (before + sum weights) / whole
unfolding shares_from
shares-from flight whole before [] some =
    let same : before ≡ before + 0 = omega arith in
    let e : flight * before / whole ≡ flight * (before + 0) / whole = ap (λ n. flight * n / whole) same in
    omega (arith, e)
shares-from flight whole before (own ∷ rest) some =
    let a0 = flight * before / whole in
    let a1 = flight * (before + own) / whole in
    let shares = shares_from flight whole (before + own) rest in
    let later = shares-from flight whole (before + own) rest some in
    let weights = sum-cons own rest in
    let same : before + own + sum rest ≡ before + sum (own ∷ rest) = omega (arith, weights) in
    let all = add-share a0 a1 (sum shares) (flight * (before + sum (own ∷ rest)) / whole) (part-up flight whole before own some)
    (later ∙ ap (λ n. flight * n / whole) same) in
    let first = sum-cons (a1 - a0) shares in
    omega (arith, first, all)

pub all-shares : (flight : ℕ) (weights : List ℕ) → 0 < sum weights → sum (shares_of flight weights) ≡ flight
all-shares flight weights some =
    let all = sum weights in
    let none : flight * 0 / all ≡ 0 = ap (λ n. n / all) (mul-zero flight) ∙ zero-div all in
    let up : 0 + all ≡ all = omega arith in
    let whole : flight * (0 + all) / all ≡ flight = ap (λ n. flight * n / all) up ∙ mul-div_left flight some in
    let both = shares-from flight all 0 weights some ∙ whole in
    omega (arith, none, both)

-- the difference of two parts that are rounded down is less than one away from that of the parts
near-share : (flight whole before own : ℕ) → 0 < whole
    → IsNear flight whole own (share_of flight whole before own)
near-share flight whole before own some =
    let a0 = flight * before / whole in
    let a1 = flight * (before + own) / whole in
    let both = mul-add flight before own in
    let low0 = div-mul-le_self (flight * before) whole in
    let low1 = div-mul-le_self (flight * (before + own)) whole in
    let up0 : flight * before < a0 * whole + whole = lt-div-mul-add some in
    let up1 : flight * (before + own) < a1 * whole + whole = lt-div-mul-add some in
    let le = part-up flight whole before own some in
    let back : a1 - a0 + a0 ≡ a1 = omega arith in
    let split : (a1 - a0) * whole + a0 * whole ≡ a1 * whole = sym (add-mul (a1 - a0) a0 whole) ∙ ap (λ n. n * whole) back in
    record { most = omega (arith, both, low1, up0, split); least = omega (arith, both, low0, up1, split) }

near-shares-from : (flight whole before : ℕ) (weights : List ℕ) (k own share : ℕ) → 0 < whole
    → slice_get weights k ≡ Some own → slice_get (shares_from flight whole before weights) k ≡ Some share
    → IsNear flight whole own share
unfolding shares_from
near-shares-from flight whole before [] k own share some at is = absurd (none-some own at)
near-shares-from flight whole before (x ∷ rest) zero own share some at is =
    subst (λ s. IsNear flight whole own s) (same_Some (share_of flight whole before x) share is)
    (subst (λ o. IsNear flight whole o (share_of flight whole before x)) (same_Some x own at) (near-share flight whole before x some))
near-shares-from flight whole before (x ∷ rest) (suc k) own share some at is =
    near-shares-from flight whole (before + x) rest k own share some at is

pub near-shares : (flight : ℕ) (weights : List ℕ) (k own share : ℕ) → 0 < sum weights
    → slice_get weights k ≡ Some own → slice_get (shares_of flight weights) k ≡ Some share
    → IsNear flight (sum weights) own share
near-shares flight weights k own share some at is =
    near-shares-from flight (sum weights) 0 weights k own share some at is
