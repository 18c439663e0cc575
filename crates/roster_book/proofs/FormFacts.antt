-- Texts of the forms of a field are ASCII, and a number of the form is what `parse` reads.
use Rattle.std.proofs.Common.{◌≡◌, ◌≢◌, Bor, IsOk, MatchResult, ℕ, zero, suc, ◌<◌, ◌≤◌, Bool, true, false, ◌==◌, cond, List, [], ◌∷◌, length, drop, ℤ, pos, Some, Result, Ok, Err, w64, refl, sym, subst, arith}
use Rattle.std.specs.Str.{IsAscii, IsUtf8}
use Rattle.std.proofs.lemmas.Str.{IsUtf8-from_ascii}
use Rattle.std.specs.Char.{is_ascii_digit}
use Rattle.std.specs.Int.{IsInRange, is_in_range}
use Rattle.std.specs.List.{list_all}
use Rattle.std.specs.Result.{OkIff, result_ok}
use Rattle.std.specs.Str.Parse.{ParsesSigned, digits_value, starts_with_minus}
use Rattle.std.proofs.lemmas.Bool.Decides.{nat_tests}
use Rattle.std.proofs.lemmas.Str.Parse.{IsDigitsTest, IsNumeralModel, numerals_by_value, parse_signed_minus, parse_signed_plain, digits_value_short}
use Rattle.roster_model.specs.Form.{is_number, number_of, unsigned_part}
use Rattle.roster_book.proofs.Tests.{both_of}
use Rattle.roster_model.specs.declared.limits.TheConstants.{MOST_DIGITS}

digit_range : (c : ℕ) → is_ascii_digit c ≡ true → IsInRange 48 57 c
digit_range c h = grind (arith, nat_tests)

digit_test : (c : ℕ) → IsInRange 48 57 c → is_ascii_digit c ≡ true
digit_test c h = grind (arith, nat_tests)

abbrev AreDigits : List ℕ → Type 0
AreDigits ds = list_all is_ascii_digit ds ≡ true

tells_digits : IsDigitsTest AreDigits
tells_digits = record {
  empty = refl;
  parts = λ c cs h. let b = both_of (is_ascii_digit c) (list_all is_ascii_digit cs) h in (digit_range c b.0, b.1);
  more = λ c cs r h. rw (digit_test c r) h;
}

own : IsNumeralModel AreDigits (digits_value 10)
own = numerals_by_value AreDigits tells_digits

pub IsAscii-digits : (ds : List ℕ) → AreDigits ds → IsAscii ds
IsAscii-digits [] h i = omega arith
IsAscii-digits (c ∷ cs) h zero = let r = digit_range c (both_of (is_ascii_digit c) (list_all is_ascii_digit cs) h).0 in omega arith
IsAscii-digits (c ∷ cs) h (suc i) =
    IsAscii-digits cs (both_of (is_ascii_digit c) (list_all is_ascii_digit cs) h).1 i

-- after a minus or not, what follows is ASCII
IsAscii-behind : (text : List ℕ) (m : Bool) → (text ≡ text) → starts_with_minus text ≡ m
    → IsAscii (cond m (drop 1 text) text) → IsAscii text
IsAscii-behind [] m t e h i = omega arith
IsAscii-behind (c ∷ cs) false t e h i = h i
IsAscii-behind (c ∷ cs) true t e h zero = grind (arith, nat_tests)
IsAscii-behind (c ∷ cs) true t e h (suc i) = h i

pub IsAscii-number : (text : List ℕ) → is_number text ≡ true → IsAscii text
unfolding is_number
IsAscii-number text h =
    IsAscii-behind text (starts_with_minus text) refl refl
    (IsAscii-digits (unsigned_part text) (both_of _ _ h).1)

some_where : {T E : Type 0} (r : Result T E) (P : Type 0) (v : T) → OkIff r P v → P → result_ok r ≡ Some v
some_where (Ok x) P v h p = cc
some_where (Err e) P v h p = absurd (h p)

-- the first of some digits is no sign
no_sign : (c : ℕ) (cs : List ℕ) → AreDigits (c ∷ cs) → (c ≢ 43) × (c ≢ 45)
no_sign c cs h = let r = digit_range c (both_of (is_ascii_digit c) (list_all is_ascii_digit cs) h).0 in (λ e. absurd (omega arith), λ e. absurd (omega arith))

parses_minus : {E : Type 0} (ds : List ℕ) (r : Result ℤ E) → ParsesSigned w64 10 (45 ∷ ds) r
    → is_number (45 ∷ ds) ≡ true → result_ok r ≡ Some (number_of (45 ∷ ds))
unfolding is_number number_of
parses_minus ds r p h =
    let b = both_of (is_in_range 1 MOST_DIGITS (length ds)) (list_all is_ascii_digit ds) h in
    let short = digits_value_short own ds MOST_DIGITS b.1 (grind (arith, nat_tests)) in
    let some : 0 < length ds = grind (arith, nat_tests) in
    some_where r _ _ (parse_signed_minus own w64 (45 ∷ ds) r p refl) (b.1, some, omega arith)

parses_plain : {E : Type 0} (c : ℕ) (cs : List ℕ) (r : Result ℤ E) → ParsesSigned w64 10 (c ∷ cs) r
    → AreDigits (c ∷ cs) → length (c ∷ cs) ≤ MOST_DIGITS → result_ok r ≡ Some (pos (digits_value 10 (c ∷ cs)))
parses_plain c cs r p h l =
    let n = no_sign c cs h in
    let short = digits_value_short own (c ∷ cs) MOST_DIGITS h l in
    some_where r _ _ (parse_signed_plain own w64 (c ∷ cs) r p n.0 n.1) (h, omega arith, omega arith)

parses_by_sign : {E : Type 0} (c : ℕ) (cs : List ℕ) (m : Bool) → (c == 45) ≡ m → (r : Result ℤ E)
    → ParsesSigned w64 10 (c ∷ cs) r → is_number (c ∷ cs) ≡ true → result_ok r ≡ Some (number_of (c ∷ cs))
unfolding is_number number_of
parses_by_sign c cs true e r p h =
    let minus : c ≡ 45 = grind (arith, nat_tests) in
    let again = λ (x : ℕ) (p : ParsesSigned w64 10 (x ∷ cs) r) (h : is_number (x ∷ cs) ≡ true) (e : x ≡ 45).
    (let P : ℕ → Type 0 = λ y. ParsesSigned w64 10 (y ∷ cs) r → is_number (y ∷ cs) ≡ true → result_ok r ≡ Some (number_of (y ∷ cs)) in subst P (sym e) (parses_minus cs r) p h) in
    again c p h minus
parses_by_sign c cs false e r p h =
    let digits : unsigned_part (c ∷ cs) ≡ c ∷ cs = rw e refl in
    let b =
    both_of (is_in_range 1 MOST_DIGITS (length (unsigned_part (c ∷ cs))))
    (list_all is_ascii_digit (unsigned_part (c ∷ cs))) h in
    let all : AreDigits (c ∷ cs) = rw digits at b.1 in
    let short : is_in_range 1 MOST_DIGITS (length (c ∷ cs)) ≡ true = rw digits at b.0 in
    let n = no_sign c cs all in
    let found = parses_plain c cs r p all (grind (arith, nat_tests)) in
    rw e (let plus : (c == 43) ≡ false = grind (arith, nat_tests, n.0) in rw plus found)

-- `parse` reads such a number
pub parses_number : {E : Type 0} (text : List ℕ) (r : Result ℤ E) → ParsesSigned w64 10 text r
    → is_number text ≡ true → result_ok r ≡ Some (number_of text)
parses_number [] r p h = absurd (unfold is_number in cc h)
parses_number (c ∷ cs) r p h = parses_by_sign c cs (c == 45) refl r p h

-- ASCII is text
pub text_of_ascii : {E : Type 0} (bytes : List ℕ) (r : Result (Bor (List ℕ)) E) (P : E → Type 0)
    → MatchResult r (λ s. (s.now ≡ bytes) × IsUtf8 bytes) (λ e. ¬ (IsUtf8 bytes) × P e) → IsAscii bytes
    → IsOk r
text_of_ascii bytes (Ok s) P h a = refl
text_of_ascii bytes (Err e) P h a = absurd (h.0 (IsUtf8-from_ascii bytes a))
