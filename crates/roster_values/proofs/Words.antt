-- One bit of some words: read, set, and the first from one on.
use Rattle.std.proofs.Common.{◌≡◌, ℕ, zero, suc, ◌+◌, ◌-◌, ◌*◌, ◌/◌, ◌%◌, ◌^◌, ◌<◌, ◌≤◌, Bool, true, false, ◌&&◌, ◌||◌, eqb, eq-eqb, List, [], length, get_or, set, refl, sym, ap, ◌∙◌, subst, inl, inr, arith, bit_and, bit_or, ap₂, w64, lit<}
use Rattle.std.specs.Prelude.{All, Option, Some, None, max, min, replicate}
use Rattle.std.specs.Int.{bit_at, trailing_zeros}
use Rattle.std.proofs.Math.Bool.{or-false, or-true}
use Rattle.std.proofs.Math.Nat.{div-div-eq-div-mul, div-le_self}
use Rattle.std.proofs.lemmas.Bool.{cases_eq, cases_lt, ne_eqb, both_ways}
use Rattle.std.proofs.lemmas.List.{get_or-set_same, get_or-set_other, get_or_past, length-replicate, length-set}
use Rattle.std.proofs.lemmas.List.Elements.{All-replicate, All-set}
use Rattle.std.proofs.lemmas.Nat.{div-add-mod', pow-add, and_le_l, or_lt}
use Rattle.std.proofs.lemmas.Nat.Bits.{bit_at-lt, bit_at_above, bit_at-zero, bit_at_and, bit_at_or, bit_at_set_same, bit_at_set_other, bit_at-trailing_zeros}
use Rattle.roster_values.specs.Set.{has_bit, places_in, IsSet, IsFirstInWord, IsFirstBit}
use Rattle.roster_values.specs.declared.set.TheConstants.{SET_WORDS}
use Rattle.roster_values.specs.Bits.{has_bit_at, places_in_set}

-- ---- one bit set

bit_of_other : (words : List ℕ) (p q : ℕ) (b : ℕ) → (p ≡ q → ⊥) → p / 64 < length words
    → b ≡ bit_or (get_or words (p / 64) 0) (1 * 2 ^ (p % 64) % 2 ^ 64)
    → has_bit (set words (p / 64) b) q ≡ has_bit words q
bit_of_other words p q b other inside is =
    elim (cases_eq (q / 64) (p / 64)) [
      | inl same ↦
          let apart : q % 64 ≡ p % 64 → ⊥ =
          λ e. other (sym (div-add-mod' p 64) ∙ rw (← same, ← e) (div-add-mod' q 64)) in
          ap (λ w. eqb (bit_at w (q % 64)) 1) (rw same (get_or-set_same words (p / 64) b 0 inside) ∙ is)
          ∙ ap (λ n. eqb n 1) (bit_at_set_other w64 (get_or words (p / 64) 0) (p % 64) (omega arith) (q % 64) apart)
          ∙ ap (λ w. eqb (bit_at (get_or words w 0) (q % 64)) 1) (sym same)
      | inr away ↦ ap (λ w. eqb (bit_at w (q % 64)) 1) (get_or-set_other words (p / 64) (q / 64) b 0 away)
    ]

bit_of_same : (words : List ℕ) (p : ℕ) (b : ℕ) → p / 64 < length words
    → b ≡ bit_or (get_or words (p / 64) 0) (1 * 2 ^ (p % 64) % 2 ^ 64)
    → has_bit (set words (p / 64) b) p ≡ true
bit_of_same words p b inside is =
    let word : get_or (set words (p / 64) b) (p / 64) 0
    ≡ bit_or (get_or words (p / 64) 0) (1 * 2 ^ (p % 64) % 2 ^ 64) =
    get_or-set_same words (p / 64) b 0 inside ∙ is in
    rw (word, bit_at_set_same w64 (get_or words (p / 64) 0) (p % 64) (omega arith)) refl

pub has_bit-set : (words : List ℕ) (p : ℕ) (b : ℕ) → p / 64 < length words
    → b ≡ bit_or (get_or words (p / 64) 0) (1 * 2 ^ (p % 64) % 2 ^ 64) → (q : ℕ)
    → has_bit (set words (p / 64) b) q ≡ (has_bit words q || eqb p q)
has_bit-set words p b inside is q =
    elim (cases_eq p q) [
      | inl here ↦ subst (λ r. has_bit (set words (p / 64) b) r ≡ (has_bit words r || eqb p r)) here (bit_of_same words p b inside is ∙ rw (eq-eqb p p refl) (sym (or-true (has_bit words p))))
      | inr other ↦ bit_of_other words p q b other inside is ∙ rw (ne_eqb p q other) (sym (or-false (has_bit words q)))
    ]

pub word_fits : (words : List ℕ) (p : ℕ) → p / 64 < length words → All (λ word. word < 2 ^ 64) words → All (λ word. word < 2 ^ 64) (set words (p / 64) (bit_or (get_or words (p / 64) 0) (1 * 2 ^ (p % 64) % 2 ^ 64)))
word_fits words p inside fits =
    All-set (λ word. word < 2 ^ 64) words (p / 64) _
    (or_lt 64 _ _ (fits (p / 64) 0 inside) (omega arith)) fits

-- ---- the first bit of a word

bit_past : (word from j i : ℕ) → from + j ≡ i → bit_at (word / 2 ^ from) j ≡ bit_at word i
bit_past word from j i e =
    let power : 2 ^ from * 2 ^ j ≡ 2 ^ i = sym (pow-add 2 from j) ∙ ap (λ n. 2 ^ n) e in
    ap (λ n. n % 2) (div-div-eq-div-mul word (2 ^ from) (2 ^ j) ∙ ap (λ n. word / n) power)

pub no_bit_from : (word from : ℕ) → word / 2 ^ from ≡ 0 → (i : ℕ) → from ≤ i → bit_at word i ≡ 0
no_bit_from word from none i l =
    sym (bit_past word from (i - from) i (omega arith)) ∙ ap (λ n. bit_at n (i - from)) none
    ∙ bit_at-zero (i - from)

pub first_bit_from : (word from : ℕ) → word < 2 ^ 64 → 0 < word / 2 ^ from
    → IsFirstInWord word from (Some (from + trailing_zeros w64 (word / 2 ^ from)))
first_bit_from word from fits some =
    let rest : ℕ = word / 2 ^ from in
    let small : rest < 2 ^ 64 = omega (arith, div-le_self word (2 ^ from)) in
    let lowest = bit_at-trailing_zeros w64 rest some small in
    let here : bit_at word (from + trailing_zeros w64 rest) ≡ 1 =
    sym (bit_past word from (trailing_zeros w64 rest) _ refl) ∙ lowest.1 in
    let inside : from + trailing_zeros w64 rest < 64 = elim (cases_lt (from + trailing_zeros w64 rest) 64) [
      | inl l ↦ l
      | inr past ↦ absurd (let none = bit_at_above word 64 (from + trailing_zeros w64 rest) fits past in omega arith)
    ] in
    (omega arith, inside, here, λ j l before. sym (bit_past word from (j - from) j (omega arith)) ∙ lowest.2 (j - from) (omega arith))

-- ---- the first bit of some words

pub no_bit_in_word : (words : List ℕ) (i low p : ℕ) → IsFirstInWord (get_or words i 0) low None
    → i * 64 + low ≤ p → p < (i + 1) * 64 → has_bit words p ≡ false
no_bit_in_word words i low p none l inside =
    let word : p / 64 ≡ i = omega arith in
    let bit : bit_at (get_or words (p / 64) 0) (p % 64) ≡ 0 = rw word (none (p % 64) (omega arith)) in
    ap (λ n. eqb n 1) bit

-- no bit past the words is set
pub no_bit_past : (words : List ℕ) (p : ℕ) → length words * 64 ≤ p → has_bit words p ≡ false
no_bit_past words p past =
    ap (λ w. eqb (bit_at w (p % 64)) 1) (get_or_past words (p / 64) 0 (omega arith))
    ∙ ap (λ n. eqb n 1) (bit_at-zero (p % 64))

pub first_in_words : (words : List ℕ) (from i low bit : ℕ) → from ≤ i * 64 + low
    → ((p : ℕ) → from ≤ p → p < i * 64 + low → has_bit words p ≡ false)
    → IsFirstInWord (get_or words i 0) low (Some bit) → IsFirstBit words from (Some (i * 64 + bit))
first_in_words words from i low bit onward before found =
    let inside : bit < 64 = found.1 in
    let above : low ≤ bit = found.0 in
    let here : has_bit words (i * 64 + bit) ≡ true = has_bit_at words i bit inside ∙ ap (λ n. eqb n 1) found.2 in (
      omega arith,
      here,
      λ q l later. elim (cases_lt q (i * 64 + low)) [
        | inl earlier ↦ before q l earlier
        | inr on ↦
            let word : q / 64 ≡ i = omega arith in
            let none : bit_at (get_or words (q / 64) 0) (q % 64) ≡ 0 =
            rw word (found.3 (q % 64) (omega arith) (omega arith)) in
            ap (λ n. eqb n 1) none
      ],
    )

-- the first bit from a place on is that from an earlier place on if none is set between them
pub first_from_before : (words : List ℕ) (from mid : ℕ) (found : Option ℕ) → from ≤ mid
    → ((p : ℕ) → from ≤ p → p < mid → has_bit words p ≡ false) → IsFirstBit words mid found
    → IsFirstBit words from found
first_from_before words from mid None onward before none = λ p l. elim (cases_lt p mid) [
  | inl earlier ↦ before p l earlier
  | inr on ↦ none p on
]
first_from_before words from mid (Some p) onward before first = (
  let later = first.0 in omega arith,
  first.1,
  λ q l below. elim (cases_lt q mid) [
    | inl earlier ↦ before q l earlier
    | inr on ↦ first.2 q on below
  ],
)

-- ---- no bits

zero_at : (n i : ℕ) → let none : ℕ = 0 in get_or (replicate n none) i none ≡ none
zero_at zero i = refl
zero_at (suc n) zero = refl
zero_at (suc n) (suc i) = zero_at n i

no_bit : (n p : ℕ) → has_bit (replicate n 0) p ≡ false
no_bit n p =
    ap (λ w. eqb (bit_at w (p % 64)) 1) (zero_at n (p / 64)) ∙ ap (λ b. eqb b 1) (bit_at-zero (p % 64))

pub IsSet-zeros : IsSet (replicate SET_WORDS 0)
IsSet-zeros = record {
  fits = All-replicate (λ word. word < 2 ^ 64) SET_WORDS 0 (lit< tt);
  long = length-replicate {A = ℕ} SET_WORDS 0;
  within = λ p h. absurd (both_ways _ (no_bit SET_WORDS p) h);
}

pub places_in-zeros : places_in (replicate SET_WORDS 0) ≡ []
places_in-zeros =
    places_in_set (replicate SET_WORDS 0) [] tt (λ p h. absurd (both_ways _ refl h)) (no_bit SET_WORDS)

-- ---- bits in common

none_in_common : (a b : ℕ) → a < 2 → b < 2 → min a b ≡ 0 → (eqb a 1 && eqb b 1) ≡ false
none_in_common zero b l m e = refl
none_in_common (suc zero) zero l m e = refl
none_in_common (suc zero) (suc zero) l m e = absurd (omega arith)
none_in_common (suc zero) (suc (suc b)) l m e = absurd (omega arith)
none_in_common (suc (suc a)) b l m e = absurd (omega arith)

pub apart_in_word : (words others : List ℕ) (i p : ℕ) → p / 64 ≡ i
    → bit_and (get_or words i 0) (get_or others i 0) ≡ 0 → (has_bit words p && has_bit others p) ≡ false
apart_in_word words others i p word none =
    let bit : ℕ = p % 64 in
    let least : min (bit_at (get_or words (p / 64) 0) bit) (bit_at (get_or others (p / 64) 0) bit) ≡ 0 =
    sym (bit_at_and (get_or words (p / 64) 0) (get_or others (p / 64) 0) bit)
    ∙ ap (λ n. bit_at n bit) (rw word none) ∙ bit_at-zero bit in
    none_in_common _ _ (bit_at-lt _ bit) (bit_at-lt _ bit) least

both_one : (a b : ℕ) → a < 2 → b < 2 → min a b ≡ 1 → (a ≡ 1) × (b ≡ 1)
both_one a b l m e = (omega arith, omega arith)

pub meet_in_word : (words others : List ℕ) (i : ℕ) → get_or words i 0 < 2 ^ 64
    → 0 < bit_and (get_or words i 0) (get_or others i 0)
    → (p : ℕ) × (has_bit words p ≡ true) × (has_bit others p ≡ true)
meet_in_word words others i fits some =
    let both : ℕ = bit_and (get_or words i 0) (get_or others i 0) in
    let small : both < 2 ^ 64 = omega (arith, and_le_l (get_or words i 0) (get_or others i 0)) in
    let lowest = bit_at-trailing_zeros w64 both some small in
    let bit : ℕ = trailing_zeros w64 both in
    let ones =
    both_one _ _ (bit_at-lt (get_or words i 0) bit) (bit_at-lt (get_or others i 0) bit)
    (sym (bit_at_and (get_or words i 0) (get_or others i 0) bit) ∙ lowest.1) in
    (i * 64 + bit, has_bit_at words i bit lowest.0 ∙ ap (λ n. eqb n 1) ones.0, has_bit_at others i bit lowest.0 ∙ ap (λ n. eqb n 1) ones.1)

-- ---- bits of both, and of either

-- the words before word i are made of two words each, and the others are as they were
pub record AreCombined (op : ℕ → ℕ → ℕ) (old others : List ℕ) (i : ℕ) (words : List ℕ) : Type 0 where
  pub long : length words ≡ SET_WORDS
  pub done : (j : ℕ) → j < i → get_or words j 0 ≡ op (get_or old j 0) (get_or others j 0)
  pub rest : (j : ℕ) → i ≤ j → get_or words j 0 ≡ get_or old j 0
  pub fits : All (λ word. word < 2 ^ 64) old → All (λ word. word < 2 ^ 64) others
      → All (λ word. word < 2 ^ 64) words

pub AreCombined-start : (op : ℕ → ℕ → ℕ) (old others : List ℕ) → length old ≡ SET_WORDS
    → AreCombined op old others 0 old
AreCombined-start op old others long = record {
  long = long;
  done = λ j l. absurd (omega arith);
  rest = λ j l. refl;
  fits = λ fits _. fits;
}

-- one word more
pub AreCombined-next : (op : ℕ → ℕ → ℕ) (old others words : List ℕ) (i : ℕ)
    → ((a b : ℕ) → a < 2 ^ 64 → b < 2 ^ 64 → op a b < 2 ^ 64) → i < SET_WORDS → length others ≡ SET_WORDS
    → AreCombined op old others i words
    → AreCombined op old others (i + 1) (set words i (op (get_or words i 0) (get_or others i 0)))
AreCombined-next op old others words i small below as_long are =
    let new : ℕ = op (get_or words i 0) (get_or others i 0) in
    let inside : i < length words = omega (arith, are.long) in
    record {
      long = length-set words i new ∙ are.long;
      done = λ j l. elim (cases_eq j i) [
        | inl same ↦
            subst (λ k. get_or (set words i new) k 0 ≡ op (get_or old k 0) (get_or others k 0)) (sym same)
            (get_or-set_same words i new 0 inside ∙ ap (λ word. op word (get_or others i 0)) (are.rest i (omega arith)))
        | inr other ↦ get_or-set_other words i j new 0 other ∙ are.done j (omega arith)
      ];
      rest = λ j l. get_or-set_other words i j new 0 (λ e. omega arith) ∙ are.rest j (omega arith);
      fits = λ fits theirs.
          let all = are.fits fits theirs in
          All-set (λ word. word < 2 ^ 64) words i new
          (small _ _ (all i 0 inside) (theirs i 0 (omega (arith, as_long)))) all;
    }

-- all words
pub combined : (op : ℕ → ℕ → ℕ) (old others words : List ℕ) (i : ℕ) → op 0 0 ≡ 0 → SET_WORDS ≤ i
    → length old ≡ SET_WORDS → length others ≡ SET_WORDS → AreCombined op old others i words → (j : ℕ)
    → get_or words j 0 ≡ op (get_or old j 0) (get_or others j 0)
combined op old others words i none whole long as_long are j =
    elim (cases_lt j SET_WORDS) [
      | inl inside ↦ are.done j (omega (arith, inside, whole))
      | inr past ↦
          get_or_past words j 0 (omega (arith, are.long)) ∙ sym none
          ∙ sym (ap₂ op (get_or_past old j 0 (omega (arith, long))) (get_or_past others j 0 (omega (arith, as_long))))
    ]

one_of_both : (a b : ℕ) → a < 2 → b < 2 → eqb (min a b) 1 ≡ (eqb a 1 && eqb b 1)
one_of_both zero b l m = let none : min 0 b ≡ 0 = omega arith in ap (λ n. eqb n 1) none
one_of_both (suc zero) zero l m = refl
one_of_both (suc zero) (suc zero) l m = refl
one_of_both (suc zero) (suc (suc b)) l m = absurd (omega arith)
one_of_both (suc (suc a)) b l m = absurd (omega arith)

one_of_either : (a b : ℕ) → a < 2 → b < 2 → eqb (max a b) 1 ≡ (eqb a 1 || eqb b 1)
one_of_either zero zero l m = refl
one_of_either zero (suc zero) l m = refl
one_of_either zero (suc (suc b)) l m = absurd (omega arith)
one_of_either (suc zero) zero l m = refl
one_of_either (suc zero) (suc zero) l m = refl
one_of_either (suc zero) (suc (suc b)) l m = absurd (omega arith)
one_of_either (suc (suc a)) b l m = absurd (omega arith)

-- a bit of words that are made of two words each, if bits are made of bits
bit_of_combined : (op bit : ℕ → ℕ → ℕ) (test : Bool → Bool → Bool)
    → ((a b n : ℕ) → bit_at (op a b) n ≡ bit (bit_at a n) (bit_at b n))
    → ((a b : ℕ) → a < 2 → b < 2 → eqb (bit a b) 1 ≡ test (eqb a 1) (eqb b 1))
    → (words others made : List ℕ) (p : ℕ)
    → get_or made (p / 64) 0 ≡ op (get_or words (p / 64) 0) (get_or others (p / 64) 0)
    → has_bit made p ≡ test (has_bit words p) (has_bit others p)
bit_of_combined op bit test bits tests words others made p word =
    ap (λ w. eqb (bit_at w (p % 64)) 1) word ∙ ap (λ n. eqb n 1) (bits _ _ (p % 64))
    ∙ tests _ _ (bit_at-lt (get_or words (p / 64) 0) (p % 64)) (bit_at-lt (get_or others (p / 64) 0) (p % 64))

pub bit_of_both : (words others both : List ℕ) (p : ℕ)
    → get_or both (p / 64) 0 ≡ bit_and (get_or words (p / 64) 0) (get_or others (p / 64) 0)
    → has_bit both p ≡ (has_bit words p && has_bit others p)
bit_of_both = bit_of_combined bit_and min (λ a b. a && b) bit_at_and one_of_both

pub bit_of_either : (words others either : List ℕ) (p : ℕ)
    → get_or either (p / 64) 0 ≡ bit_or (get_or words (p / 64) 0) (get_or others (p / 64) 0)
    → has_bit either p ≡ (has_bit words p || has_bit others p)
bit_of_either = bit_of_combined bit_or max (λ a b. a || b) bit_at_or one_of_either
