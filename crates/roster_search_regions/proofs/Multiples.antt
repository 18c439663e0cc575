-- Amounts that are so many times a unit.
use Prim.Native.Nat.{◌∣◌, ◌/◌}
use Rattle.std.proofs.Common.{◌≡◌, ℕ, zero, suc, ◌+◌, ◌*◌, ◌<◌, ◌≤◌, Bool, true, false, cond, eqb, List, [], ◌∷◌, unsigned_abs, ℤ, pos, negsuc, ◌+ℤ◌, sym, subst, arith}
use Rattle.std.specs.Prelude.{All}
use Rattle.std.specs.List.{range_with_len}
use Rattle.std.proofs.lemmas.Int.{ints}
use Rattle.std.proofs.lemmas.List.Elements.{All-head, All-tail}
use Rattle.std.proofs.lemmas.Nat.Gcd.{mod-eq-zero_of_dvd}
use Rattle.roster_model.specs.Costs.{open_penalties, total}
use Rattle.roster_model.specs.records.Pairing.{Pairing}
use Rattle.roster_model.proofs.CostLemmas.{total-nil, total-cons}
use Rattle.roster_search_regions.specs.Units.{IsMultiple}

pub multiple_none : (unit : ℕ) → IsMultiple unit (pos 0)
multiple_none unit = record { more = 0; less = 0; is = omega (arith, ints) }

pub multiple_sum : (unit : ℕ) (a b : ℤ) → IsMultiple unit a → IsMultiple unit b → IsMultiple unit (a +ℤ b)
multiple_sum unit a b x y = record {
  more = x.more + y.more;
  less = x.less + y.less;
  is = omega (arith, ints, x.is, y.is);
}

-- what a number divides
pub multiple_by : (unit : ℕ) (amount : ℤ) → 0 < unit → unit ∣ unsigned_abs amount → IsMultiple unit amount
multiple_by unit (pos n) some divides =
    let none = mod-eq-zero_of_dvd unit divides in
    let whole : unit * (n / unit) ≡ n = omega (arith, none) in
    record { more = n / unit; less = 0; is = omega (arith, ints, whole) }
multiple_by unit (negsuc n) some divides =
    let none = mod-eq-zero_of_dvd unit divides in
    let whole : unit * (suc n / unit) ≡ suc n = omega (arith, none) in
    record { more = 0; less = suc n / unit; is = omega (arith, ints, whole) }

-- a sum of such amounts
pub multiple_total : (unit : ℕ) (f : ℕ → ℤ) (first n : ℕ)
    → ((k : ℕ) → first ≤ k → k < first + n → IsMultiple unit (f k))
    → IsMultiple unit (total f (range_with_len first n))
multiple_total unit f first zero each = subst (IsMultiple unit) (sym (total-nil f)) (multiple_none unit)
multiple_total unit f first (suc n) each =
    let rest = range_with_len (first + 1) n in
    subst (IsMultiple unit) (sym (total-cons f first rest))
    (multiple_sum unit (f first) (total f rest) (each first (omega arith) (omega arith)) (multiple_total unit f (first + 1) n (λ k low high. each k (omega arith) (omega arith))))

-- the penalties of open pairings
pub multiple_penalties : (unit nobody : ℕ) (pairings : List Pairing) (places : List ℕ)
    → All (λ pairing. IsMultiple unit (pos pairing.penalty)) pairings
    → IsMultiple unit (pos (open_penalties nobody pairings places))
multiple_penalties unit nobody [] places each = multiple_none unit
multiple_penalties unit nobody (pairing ∷ pairings) [] each = multiple_none unit
multiple_penalties unit nobody (pairing ∷ pairings) (x ∷ places) each =
    let One : Pairing → Type 0 = λ p. IsMultiple unit (pos p.penalty) in
    let rest = multiple_penalties unit nobody pairings places (All-tail One pairing pairings each) in
    both (eqb x nobody) pairing.penalty (open_penalties nobody pairings places)
    (All-head One pairing pairings each) rest
  where
    both : (b : Bool) (penalty others : ℕ) → IsMultiple unit (pos penalty) → IsMultiple unit (pos others)
        → IsMultiple unit (pos (cond b penalty 0 + others))
    both true penalty others one more = multiple_sum unit (pos penalty) (pos others) one more
    both false penalty others one more =
        let same : others ≡ 0 + others = omega arith in
        subst (λ (n : ℕ). IsMultiple unit (pos n)) same more
