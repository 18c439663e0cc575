-- Sets of pairings as words of bits, and what is said of sets.
use Rattle.std.specs.Prelude.{◌≡◌, ℕ, zero, suc, ◌+◌, ◌*◌, ◌/◌, ◌%◌, ◌^◌, ◌<◌, ◌≤◌, Bool, true, false, Option, Some, None, ◌==◌, nat_lt, nat_le, if◌then◌else◌, List, [], ◌∷◌, ◌++◌, length, slice_index, All, filter}
use Rattle.std.specs.Int.{bit_at}
use Rattle.roster_model.specs.declared.limits.TheConstants.{MOST_PAIRINGS}
use Rattle.roster_model.specs.Rules.{is_among}
use Rattle.roster_values.specs.declared.set.TheConstants.{SET_WORDS}

-- ---- what is said of sets

-- the set with p in it
abbrev pub with_place : ℕ → List ℕ → List ℕ
with_place p set = filter (λ q. nat_lt q p) set ++ p ∷ filter (λ q. nat_lt p q) set

-- its places at or after the one given
abbrev pub places_from : ℕ → List ℕ → List ℕ
places_from from set = filter (λ q. nat_le from q) set

-- ---- words of bits

-- whether bit p is set; bit 0 is the lowest of the first word
abbrev pub has_bit : List ℕ → ℕ → Bool
has_bit words p = bit_at (slice_index words (p / 64)) (p % 64) == 1

-- the numbers below n that pass the test, in ascending order
unfoldable pub numbers_where : (ℕ → Bool) → ℕ → List ℕ
numbers_where test zero = []
numbers_where test (suc n) = numbers_where test n ++ (if test n then n ∷ [] else [])

-- the set whose places have their bits set
unfoldable pub places_in : List ℕ → List ℕ
places_in words = numbers_where (has_bit words) MOST_PAIRINGS

-- the words of a set: no bit stands for what is no place of a pairing
pub record IsSet (words : List ℕ) : Type 0 where
  pub fits : All (λ word. word < 2 ^ 64) words
  pub long : length words ≡ SET_WORDS
  pub within : (p : ℕ) → has_bit words p ≡ true → p < MOST_PAIRINGS

-- the first bit at or after the one given, if one is set
abbrev pub IsFirstBit : List ℕ → ℕ → Option ℕ → Type 0
IsFirstBit words from None = (p : ℕ) → from ≤ p → has_bit words p ≡ false
IsFirstBit words from (Some p) =
    (from ≤ p) × (has_bit words p ≡ true) × ((q : ℕ) → from ≤ q → q < p → has_bit words q ≡ false)

-- the first bit of one word at or after the one given, if one is set
abbrev pub IsFirstInWord : ℕ → ℕ → Option ℕ → Type 0
IsFirstInWord word from None = (i : ℕ) → from ≤ i → bit_at word i ≡ 0
IsFirstInWord word from (Some i) =
    (from ≤ i) × (i < 64) × (bit_at word i ≡ 1) × ((j : ℕ) → from ≤ j → j < i → bit_at word j ≡ 0)

-- ---- back from a set to its words

-- the number of which those of the lowest n bits are set that pass the test
unfoldable pub number_where : (ℕ → Bool) → ℕ → ℕ
number_where test zero = 0
number_where test (suc n) = (if test n then 1 else 0) * 2 ^ n + number_where test n

-- n words of the set, from this one on
unfoldable pub words_from : List ℕ → ℕ → ℕ → List ℕ
words_from set word zero = []
words_from set word (suc n) =
    number_where (λ bit. is_among set (word * 64 + bit)) 64 ∷ words_from set (word + 1) n

unfoldable pub words_of : List ℕ → List ℕ
words_of set = words_from set 0 SET_WORDS
