-- Legal rosters, united by bases.
use Rattle.std.proofs.Common.{◌≡◌, ℕ, zero, suc, ◌+◌, ◌<◌, ◌≤◌, Bool, true, false, cond, eqb, List, length, get_or, ℤ, ◌+ℤ◌, int_lt, int_eq, ◌&&◌, ◌||◌, sym, ap, ap₂, ◌∙◌, subst, inl, inr, arith}
use Rattle.std.specs.List.{range_with_len}
use Rattle.std.proofs.lemmas.Bool.{cases_Bool, both_ways, ne_eqb}
use Rattle.std.proofs.lemmas.Int.{ints}
use Rattle.std.proofs.lemmas.List.{ext_get_or}
use Rattle.std.proofs.lemmas.List.Elements.{All-from_get_or}
use Rattle.roster_model.specs.Costs.{cost_of, line_cost, total}
use Rattle.roster_model.specs.Problem.{Problem}
use Rattle.roster_model.specs.Places.{open_number, set_of, places_le}
use Rattle.roster_model.specs.Rosters.{IsLegalRoster, Key, key_of, key_le}
use Rattle.roster_model.specs.Rules.{IsLegal}
use Rattle.roster_model.proofs.CostLemmas.{total-nil, total-cons}
use Rattle.roster_model.proofs.PlacesParts.{same_set_of}
use Rattle.roster_cost.proofs.Shares.{by_person}
use Rattle.roster_bases.specs.Bases.{base_of_pairing, base_of_person, only}
use Rattle.roster_bases.specs.United.{unite}
use Rattle.roster_bases.proofs.BaseLemmas.{apart}
use Rattle.roster_bases.proofs.Picks.{get_or-pick, length-pick, open_penalties-pick, places_le-pick, places_le-pick_others}

-- ---- numbers and sets

pub length-unite : (problem : Problem) (bases : ℕ → Bool) (xs ys : List ℕ) → length xs ≡ length ys
    → length (unite problem bases xs ys) ≡ length ys
length-unite problem bases xs ys same = length-pick (λ p. bases (base_of_pairing problem p)) 0 xs ys same

pub get_or-unite : (problem : Problem) (bases : ℕ → Bool) (p : ℕ) (xs ys : List ℕ) → length xs ≡ length ys → p < length ys → get_or (unite problem bases xs ys) p 0 ≡ cond (bases (base_of_pairing problem p)) (get_or xs p 0) (get_or ys p 0)
get_or-unite problem bases p xs ys same inside =
    let first : 0 + p ≡ p = omega arith in
    get_or-pick (λ q. bases (base_of_pairing problem q)) 0 p xs ys same inside
    ∙ ap (λ q. cond (bases (base_of_pairing problem q)) (get_or xs p 0) (get_or ys p 0)) first

-- if each number is that of the first roster at the base and of the second elsewhere, they are united
pub united_at_end : (problem : Problem) (base n : ℕ) (first second places : List ℕ)
    → length first ≡ length problem.pairings → length second ≡ length problem.pairings → length places ≡ n
    → n ≡ length second
    → ((q : ℕ) → q < n → get_or places q 0 ≡ cond (eqb (base_of_pairing problem q) base) (get_or first q 0) (get_or second q 0)) → places ≡ unite problem (only base) first second
united_at_end problem base n first second places one two long all each =
    let same : length first ≡ length second = one ∙ sym two in
    ext_get_or 0 places (unite problem (only base) first second)
    (long ∙ all ∙ sym (length-unite problem (only base) first second same)) (λ p inside.
    each p (omega (arith, inside, long))
    ∙ sym (get_or-unite problem (only base) p first second same (omega (arith, inside, long, all))))

-- two numbers of which neither is the person's
neither : (x y k : ℕ) → (x ≡ k → ⊥) → (y ≡ k → ⊥) → eqb x k ≡ eqb y k
neither x y k first second = ne_eqb x k first ∙ sym (ne_eqb y k second)

-- a person of those bases has the first roster's set,
pub set_of-unite : (problem : Problem) (bases : ℕ → Bool) (xs ys : List ℕ) (k : ℕ) → IsLegalRoster problem xs
    → IsLegalRoster problem ys → k < length problem.persons → bases (base_of_person problem k) ≡ true
    → set_of k (unite problem bases xs ys) ≡ set_of k xs
set_of-unite problem bases xs ys k first second person here =
    let same : length xs ≡ length ys = first.covers ∙ sym second.covers in
    let long = length-unite problem bases xs ys same in
    same_set_of k (unite problem bases xs ys) xs (long ∙ sym same) (λ p inside.
    let within : p < length ys = omega (arith, inside, long) in
    let also : p < length xs = omega (arith, within, same) in
    let number = get_or-unite problem bases p xs ys same within in
    elim (cases_Bool (bases (base_of_pairing problem p))) [
      | inl ours ↦ ap (λ n. eqb n k) (number ∙ ap (λ b. cond b (get_or xs p 0) (get_or ys p 0)) ours)
      | inr theirs ↦
          let other : bases (base_of_pairing problem p) ≡ bases (base_of_person problem k) → ⊥ =
          λ e. both_ways _ theirs (e ∙ here) in
          ap (λ n. eqb n k) (number ∙ ap (λ b. cond b (get_or xs p 0) (get_or ys p 0)) theirs)
          ∙ neither (get_or ys p 0) (get_or xs p 0) k (apart problem bases ys k p second person within other) (apart problem bases xs k p first person also other)
    ])

-- and any other the second one's
pub set_of-unite_other : (problem : Problem) (bases : ℕ → Bool) (xs ys : List ℕ) (k : ℕ)
    → IsLegalRoster problem xs → IsLegalRoster problem ys → k < length problem.persons
    → bases (base_of_person problem k) ≡ false → set_of k (unite problem bases xs ys) ≡ set_of k ys
set_of-unite_other problem bases xs ys k first second person here =
    let same : length xs ≡ length ys = first.covers ∙ sym second.covers in
    let long = length-unite problem bases xs ys same in
    same_set_of k (unite problem bases xs ys) ys long (λ p inside.
    let within : p < length ys = omega (arith, inside, long) in
    let also : p < length xs = omega (arith, within, same) in
    let number = get_or-unite problem bases p xs ys same within in
    elim (cases_Bool (bases (base_of_pairing problem p))) [
      | inl ours ↦
          let other : bases (base_of_pairing problem p) ≡ bases (base_of_person problem k) → ⊥ =
          λ e. both_ways _ here (sym e ∙ ours) in
          ap (λ n. eqb n k) (number ∙ ap (λ b. cond b (get_or xs p 0) (get_or ys p 0)) ours)
          ∙ neither (get_or xs p 0) (get_or ys p 0) k (apart problem bases xs k p first person also other) (apart problem bases ys k p second person within other)
      | inr theirs ↦ ap (λ n. eqb n k) (number ∙ ap (λ b. cond b (get_or xs p 0) (get_or ys p 0)) theirs)
    ])

either_most : (b : Bool) (x y n : ℕ) → x ≤ n → y ≤ n → cond b x y ≤ n
either_most true x y n first second = first
either_most false x y n first second = second

-- a unite of legal rosters is one
pub legal-unite : (problem : Problem) (bases : ℕ → Bool) (xs ys : List ℕ) → IsLegalRoster problem xs
    → IsLegalRoster problem ys → IsLegalRoster problem (unite problem bases xs ys)
legal-unite problem bases xs ys first second =
    let same : length xs ≡ length ys = first.covers ∙ sym second.covers in
    let long = length-unite problem bases xs ys same in
    record {
      covers = long ∙ second.covers;
      numbers = All-from_get_or (λ x. x ≤ length problem.persons) (unite problem bases xs ys) 0 (λ p inside.
          let within : p < length ys = omega (arith, inside, long) in
          let also : p < length xs = omega (arith, within, same) in
          subst (λ n. n ≤ length problem.persons) (sym (get_or-unite problem bases p xs ys same within))
          (either_most (bases (base_of_pairing problem p)) _ _ _ (first.numbers p 0 also) (second.numbers p 0 within)));
      legal = λ k person. elim (cases_Bool (bases (base_of_person problem k))) [
        | inl ours ↦ subst (IsLegal problem k) (sym (set_of-unite problem bases xs ys k first second person ours)) (first.legal k person)
        | inr theirs ↦ subst (IsLegal problem k) (sym (set_of-unite_other problem bases xs ys k first second person theirs)) (second.legal k person)
      ];
    }

-- ---- costs

turned : (a b : ℤ) → a +ℤ b ≡ b +ℤ a
turned a b = omega (arith, ints)

total-exchange : (f g h i : ℕ → ℤ) (first n : ℕ) → ((k : ℕ) → k < first + n → f k +ℤ g k ≡ h k +ℤ i k)
    → total f (range_with_len first n) +ℤ total g (range_with_len first n) ≡ total h (range_with_len first n) +ℤ total i (range_with_len first n)
total-exchange f g h i first zero each =
    omega (arith, ints, total-nil f, total-nil g, total-nil h, total-nil i)
total-exchange f g h i first (suc n) each =
    let rest = total-exchange f g h i (first + 1) n (λ k below. each k (omega (arith, below))) in
    let here = each first (omega arith) in
    let r = range_with_len (first + 1) n in
    omega (arith, ints, rest, here, total-cons f first r, total-cons g first r, total-cons h first r, total-cons i first r)

-- the two that come from two rosters which change places at some bases cost as much as the two
pub cost_of-unite : (problem : Problem) (bases : ℕ → Bool) (xs ys : List ℕ)
    → IsLegalRoster problem xs → IsLegalRoster problem ys
    → cost_of problem (unite problem bases xs ys) +ℤ cost_of problem (unite problem bases ys xs) ≡ cost_of problem xs +ℤ cost_of problem ys
cost_of-unite problem bases xs ys first second =
    let line : List ℕ → ℕ → ℤ = λ places k. line_cost problem k (set_of k places) in
    let same : length xs ≡ length ys = first.covers ∙ sym second.covers in
    let both = unite problem bases xs ys in
    let back = unite problem bases ys xs in
    let lines =
    total-exchange (line both) (line back) (line xs) (line ys) 0 (length problem.persons) (λ k below.
    let person : k < length problem.persons = omega (arith, below) in
    elim (cases_Bool (bases (base_of_person problem k))) [
      | inl ours ↦ ap₂ (λ a b. line_cost problem k a +ℤ line_cost problem k b) (set_of-unite problem bases xs ys k first second person ours) (set_of-unite problem bases ys xs k second first person ours)
      | inr theirs ↦
          ap₂ (λ a b. line_cost problem k a +ℤ line_cost problem k b)
          (set_of-unite_other problem bases xs ys k first second person theirs)
          (set_of-unite_other problem bases ys xs k second first person theirs)
          ∙ turned (line ys k) (line xs k)
    ]) in
    let left =
    open_penalties-pick (open_number problem) problem.pairings
    (λ p. bases (base_of_pairing problem p)) 0 xs ys same in
    omega
    (arith, ints, lines, left, by_person problem both, by_person problem back, by_person problem xs, by_person problem ys)

-- ---- the exchange law of keys

lt_same : (a b c d : ℤ) → c +ℤ b ≡ a +ℤ d → int_lt a b ≡ int_lt c d
lt_same a b c d same = grind (arith, ints)

eq_same : (a b c d : ℤ) → c +ℤ b ≡ a +ℤ d → int_eq a b ≡ int_eq c d
eq_same a b c d same = grind (arith, ints)

keys_same : (a b c d : Key) → c.cost +ℤ b.cost ≡ a.cost +ℤ d.cost
    → places_le a.places b.places ≡ places_le c.places d.places → key_le a b ≡ key_le c d
keys_same a b c d costs lists =
    ap₂ (λ less rest. less || rest) (lt_same a.cost b.cost c.cost d.cost costs)
    (ap₂ (λ same rest. same && rest) (eq_same a.cost b.cost c.cost d.cost costs) lists)

-- A change at the pairings of some bases makes a roster later just where it does so with the others as in
-- another one,
pub exchange : (problem : Problem) (bases : ℕ → Bool) (xs ys : List ℕ) → IsLegalRoster problem xs
    → IsLegalRoster problem ys
    → key_le (key_of problem xs) (key_of problem (unite problem bases ys xs)) ≡ key_le (key_of problem (unite problem bases xs ys)) (key_of problem ys)
exchange problem bases xs ys first second =
    keys_same (key_of problem xs) (key_of problem (unite problem bases ys xs))
    (key_of problem (unite problem bases xs ys)) (key_of problem ys)
    (cost_of-unite problem bases xs ys first second)
    (places_le-pick (λ p. bases (base_of_pairing problem p)) 0 xs ys (first.covers ∙ sym second.covers))

-- and so does a change at all but these.
pub exchange_others : (problem : Problem) (bases : ℕ → Bool) (xs ys : List ℕ)
    → IsLegalRoster problem xs → IsLegalRoster problem ys
    → key_le (key_of problem xs) (key_of problem (unite problem bases xs ys)) ≡ key_le (key_of problem (unite problem bases ys xs)) (key_of problem ys)
exchange_others problem bases xs ys first second =
    let costs = cost_of-unite problem bases ys xs second first in
    keys_same (key_of problem xs) (key_of problem (unite problem bases xs ys))
    (key_of problem (unite problem bases ys xs)) (key_of problem ys)
    (costs ∙ turned (cost_of problem ys) (cost_of problem xs))
    (places_le-pick_others (λ p. bases (base_of_pairing problem p)) 0 xs ys (first.covers ∙ sym second.covers))
