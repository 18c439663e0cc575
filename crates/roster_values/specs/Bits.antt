-- Words of bits and the sets that they stand for.
use Rattle.std.proofs.Common.{◌≡◌, ℕ, zero, suc, ◌+◌, ◌-◌, ◌*◌, ◌^◌, ◌<◌, Bool, true, false, ◌&&◌, ◌||◌, cond, eqb, eq-eqb, List, [], ◌∷◌, ◌++◌, length, get_or, refl, sym, ap, ◌∙◌, subst, inl, inr, arith, append-nil}
use Rattle.std.specs.Prelude.{nat_lt, All}
use Rattle.std.specs.Int.{bit_at}
use Rattle.std.specs.Str.{bytes_eq}
use Rattle.std.proofs.Math.Bool.{and-false, and-true, or-false}
use Rattle.std.proofs.Math.Nat.{pow-suc}
use Rattle.std.proofs.lemmas.Bool.{cases_order, cases_lt, lt-ltb, le-ltb, ne_eqb}
use Rattle.std.proofs.lemmas.Bool.Decides.{same_from_decides}
use Rattle.std.proofs.lemmas.Slice.Eq.{bytes_eq-Decides}
use Rattle.std.proofs.lemmas.List.{ext_get_or}
use Rattle.std.proofs.lemmas.List.Elements.{All-nil, All-append, All-weaker, All-push}
use Rattle.std.proofs.lemmas.Nat.{div-mul-add, mod-mul-add}
use Rattle.std.proofs.lemmas.Nat.Bits.{bit_at-lt, bit_at_cat_low, bit_at_cat_high, same_from_bits_below}
use Rattle.roster_model.specs.declared.limits.TheConstants.{MOST_PAIRINGS}
use Rattle.roster_model.specs.Rules.{is_among}
use Rattle.roster_model.proofs.SetLemmas.{Ascends, Ascends-push, is_among-append, same_set}
use Rattle.roster_values.specs.declared.set.TheConstants.{SET_WORDS}
use Rattle.roster_values.specs.declared.set.Set.TheInside.{Inside}
use Rattle.roster_values.specs.Set.{has_bit, numbers_where, places_in, IsSet, number_where, words_from, words_of}

-- ---- the numbers that pass a test

pub Ascends-numbers_where : (test : ℕ → Bool) (n : ℕ)
    → All (λ p. p < n) (numbers_where test n) × Ascends (numbers_where test n)
unfolding numbers_where
Ascends-numbers_where test zero = (All-nil (λ p. p < 0), tt)
Ascends-numbers_where test (suc n) =
    let front = Ascends-numbers_where test n in
    let P : Bool → Type 0 = λ b. All (λ p. p < suc n) (numbers_where test n ++ cond b (n ∷ []) []) × Ascends (numbers_where test n ++ cond b (n ∷ []) []) in
    let weak = All-weaker (λ p. p < n) (λ p. p < suc n) (λ p l. omega arith) (numbers_where test n) front.0 in
    elim (test n) as P [
      | true ↦ (All-push (λ p. p < suc n) (numbers_where test n) n weak (omega arith), Ascends-push (numbers_where test n) n front.1 front.0)
      | false ↦ (All-append (λ p. p < suc n) _ [] weak (All-nil (λ p. p < suc n)), subst Ascends (sym (append-nil (numbers_where test n))) front.1)
    ]

is_among-cond : (b : Bool) (n p : ℕ) → is_among (cond b (n ∷ []) []) p ≡ (b && eqb n p)
is_among-cond true n p = or-false (eqb n p)
is_among-cond false n p = refl

-- whether p is below n, or n itself
below_next : (test : ℕ → Bool) (n p : ℕ)
    → ((nat_lt p n && test p) || (test n && eqb n p)) ≡ (nat_lt p (suc n) && test p)
below_next test n p =
    elim (cases_order p n) [
      | inl here ↦
          let P : ℕ → Type 0 =
          λ q. ((nat_lt p n && test p) || (test q && eqb q p)) ≡ (nat_lt p (suc q) && test p) in
          subst P here
          (rw (le-ltb p n (omega arith), eq-eqb p p refl, lt-ltb p (suc p) (omega arith)) (and-true (test p)))
      | inr apart ↦ elim apart [
        | inl l ↦
            let other : n ≡ p → ⊥ = λ e. omega arith in
            rw (lt-ltb p n l, ne_eqb n p other, lt-ltb p (suc n) (omega arith), and-false (test n))
            (or-false (test p))
        | inr l ↦
            let other : n ≡ p → ⊥ = λ e. omega arith in
            rw (le-ltb p n (omega arith), ne_eqb n p other, le-ltb p (suc n) (omega arith))
            (and-false (test n))
      ]
    ]

is_among-numbers_where : (test : ℕ → Bool) (n p : ℕ)
    → is_among (numbers_where test n) p ≡ (nat_lt p n && test p)
unfolding numbers_where
is_among-numbers_where test zero p = rw (le-ltb p 0 (omega arith)) refl
is_among-numbers_where test (suc n) p =
    is_among-append (numbers_where test n) (cond (test n) (n ∷ []) []) p
    ∙ rw (is_among-numbers_where test n p, is_among-cond (test n) n p) (below_next test n p)

-- ---- the set of some words

pub Ascends-places_in : (words : List ℕ)
    → All (λ p. p < MOST_PAIRINGS) (places_in words) × Ascends (places_in words)
unfolding places_in
Ascends-places_in words = Ascends-numbers_where (has_bit words) MOST_PAIRINGS

within_or_not : (a b : Bool) → (b ≡ true → a ≡ true) → (a && b) ≡ b
within_or_not true b h = refl
within_or_not false true h = h refl
within_or_not false false h = refl

pub is_among-places_in : (words : List ℕ) → IsSet words → (p : ℕ)
    → is_among (places_in words) p ≡ has_bit words p
unfolding places_in
is_among-places_in words set p =
    is_among-numbers_where (has_bit words) MOST_PAIRINGS p
    ∙ within_or_not _ (has_bit words p) (λ h. lt-ltb p MOST_PAIRINGS (set.within p h))

-- words whose bits are those of the set stand for it
pub places_in_set : (words set : List ℕ) → Ascends set → ((p : ℕ) → is_among set p ≡ true → p < MOST_PAIRINGS)
    → ((p : ℕ) → has_bit words p ≡ is_among set p) → places_in words ≡ set
unfolding places_in
places_in_set words set up within bits =
    same_set (places_in words) set (Ascends-places_in words).1 up (λ p.
    is_among-numbers_where (has_bit words) MOST_PAIRINGS p
    ∙ within_or_not _ (has_bit words p) (λ h. lt-ltb p MOST_PAIRINGS (within p (sym (bits p) ∙ h)))
    ∙ bits p)

-- ---- the words of a set

bit_first : (b : Bool) → bit_at (cond b 1 0) 0 ≡ cond b 1 0
bit_first true = refl
bit_first false = refl

number_where_fits : (test : ℕ → Bool) (n : ℕ) → number_where test n < 2 ^ n
unfolding number_where
number_where_fits test zero = omega arith
number_where_fits test (suc n) =
    let front = number_where_fits test n in
    let P : Bool → Type 0 = λ b. cond b 1 0 * 2 ^ n + number_where test n < 2 ^ suc n in
    elim (test n) as P [ true ↦ omega (arith, pow-suc 2 n) | false ↦ omega (arith, pow-suc 2 n) ]

pub bit_at-number_where : (test : ℕ → Bool) (n i : ℕ) → i < n
    → bit_at (number_where test n) i ≡ cond (test i) 1 0
unfolding number_where
bit_at-number_where test zero i l = absurd (omega arith)
bit_at-number_where test (suc n) i l =
    elim (cases_lt i n) [
      | inl low ↦ bit_at_cat_low (cond (test n) 1 0) n (number_where test n) i low ∙ bit_at-number_where test n i low
      | inr high ↦
          let here : n ≡ i = omega arith in
          let top : bit_at (cond (test n) 1 0 * 2 ^ n + number_where test n) n ≡ bit_at (cond (test n) 1 0) (n - n) =
          bit_at_cat_high (cond (test n) 1 0) n (number_where test n) n (number_where_fits test n)
          (omega arith) in
          let none : n - n ≡ 0 = omega arith in
          let P : ℕ → Type 0 =
          λ j. bit_at (cond (test n) 1 0 * 2 ^ n + number_where test n) j ≡ cond (test j) 1 0 in
          subst P here (top ∙ rw none (bit_first (test n)))
    ]

length-words_from : (set : List ℕ) (word n : ℕ) → length (words_from set word n) ≡ n
unfolding words_from
length-words_from set word zero = refl
length-words_from set word (suc n) = ap suc (length-words_from set (word + 1) n)

word_at : (set : List ℕ) (word n i at : ℕ) → i < n → word + i ≡ at
    → get_or (words_from set word n) i 0 ≡ number_where (λ bit. is_among set (at * 64 + bit)) 64
unfolding words_from
word_at set word zero i at l e = absurd (omega arith)
word_at set word (suc n) zero at l e =
    let here : word ≡ at = omega arith in
    ap (λ w. number_where (λ bit. is_among set (w * 64 + bit)) 64) here
word_at set word (suc n) (suc i) at l e = word_at set (word + 1) n i at (omega arith) (omega arith)

one_or_none : (n : ℕ) → n < 2 → cond (eqb n 1) 1 0 ≡ n
one_or_none zero l = refl
one_or_none (suc zero) l = refl
one_or_none (suc (suc n)) l = absurd (omega arith)

pub has_bit_at : (words : List ℕ) (i bit : ℕ) → bit < 64
    → has_bit words (i * 64 + bit) ≡ eqb (bit_at (get_or words i 0) bit) 1
has_bit_at words i bit l = rw (div-mul-add i 64 bit l, mod-mul-add i 64 bit l) refl

same_word : (words : List ℕ) → IsSet words → (i : ℕ) → i < SET_WORDS
    → get_or (words_of (places_in words)) i 0 ≡ get_or words i 0
unfolding words_of
same_word words set i l =
    let long = set.long in
    let test : ℕ → Bool = λ bit. is_among (places_in words) (i * 64 + bit) in
    word_at (places_in words) 0 SET_WORDS i i l (omega arith)
    ∙ same_from_bits_below 64 _ _ (number_where_fits test 64) (set.fits i 0 (omega arith)) (λ bit within.
    bit_at-number_where test 64 bit within
    ∙ ap (λ b. cond b 1 0) (is_among-places_in words set (i * 64 + bit) ∙ has_bit_at words i bit within)
    ∙ one_or_none _ (bit_at-lt (get_or words i 0) bit))

-- the words of a set can be had back
pub words_of-places_in : (words : List ℕ) → IsSet words → words_of (places_in words) ≡ words
unfolding words_of
words_of-places_in words set =
    let long = length-words_from (places_in words) 0 SET_WORDS in
    ext_get_or 0 (words_of (places_in words)) words (long ∙ sym set.long)
    (λ i l. same_word words set i (omega arith))

pub fields_back : (s : Inside) → IsSet s.words → record { words = words_of (places_in s.words) } ≡ s
fields_back s set = let made : List ℕ → Inside = λ words. record { words = words } in ap made (words_of-places_in s.words set)

-- two sets are equal if their words are
pub same_words : (words others : List ℕ) → IsSet words → IsSet others
    → bytes_eq words others ≡ bytes_eq (places_in words) (places_in others)
same_words words others set other =
    let by_words = bytes_eq-Decides words others in
    let by_places = bytes_eq-Decides (places_in words) (places_in others) in
    let back : places_in words ≡ places_in others → words ≡ others = λ e.
    sym (words_of-places_in words set) ∙ ap words_of e ∙ words_of-places_in others other in
    same_from_decides {P = words ≡ others} (bytes_eq words others)
    (bytes_eq (places_in words) (places_in others)) by_words
    (λ h. back (by_places.0 h), λ e. by_places.1 (ap places_in e))
