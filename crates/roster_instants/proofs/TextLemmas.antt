-- Texts that have a shape, and the digits at its places.
use Rattle.std.proofs.Common.{◌≡◌, ℕ, zero, suc, ◌-◌, ◌<◌, ◌≤◌, ◌^◌, Bool, true, ◌&&◌, ◌==◌, List, [], ◌∷◌, length, take, drop, refl, ap, arith, Result, Ok, Err, IsOk, MatchResult}
use Rattle.std.proofs.lemmas.Bool.{and_parts, and_from}
use Rattle.std.proofs.lemmas.Bool.Decides.{nat_tests}
use Rattle.std.specs.Char.{is_ascii_digit}
use Rattle.std.specs.Cmp.Lexicographic.{pointwise}
use Rattle.std.specs.List.{list_all, zip, slice_range}
use Rattle.std.specs.Str.{IsAscii, IsUtf8, all_ascii_digits}
use Rattle.std.specs.Str.Parse.{digits_value, ParsesUnsigned}
use Rattle.std.proofs.lemmas.Str.{IsUtf8-from_ascii}
use Rattle.std.proofs.lemmas.Str.Ascii.{IsAscii-nil, IsAscii-cons}
use Rattle.std.proofs.lemmas.Str.Parse.{IsNumeralModel, numerals_by_value, tells_all_ascii_digits, digits_value_short, parse_gives}
use Rattle.roster_model.specs.Form.{fits_shape, has_shape}

-- over lists of one length, a test of all pairs is a test point by point
pub pointwise-zip : {A B : Type 0} (test : A → B → Bool) (xs : List A) (ys : List B) → length xs ≡ length ys
    → list_all (λ (p : A × B). test p.0 p.1) (zip xs ys) ≡ pointwise test xs ys
pointwise-zip test [] [] e = refl
pointwise-zip test [] (y ∷ ys) e = absurd (omega arith)
pointwise-zip test (x ∷ xs) [] e = absurd (omega arith)
pointwise-zip test (x ∷ xs) (y ∷ ys) e = ap (λ b. test x y && b) (pointwise-zip test xs ys (omega arith))

pointwise-drop : {A B : Type 0} (test : A → B → Bool) (n : ℕ) (xs : List A) (ys : List B)
    → pointwise test xs ys ≡ true → pointwise test (drop n xs) (drop n ys) ≡ true
pointwise-drop test zero xs ys e = e
pointwise-drop test (suc n) [] [] e = e
pointwise-drop test (suc n) [] (y ∷ ys) e = cc
pointwise-drop test (suc n) (x ∷ xs) [] e = cc
pointwise-drop test (suc n) (x ∷ xs) (y ∷ ys) e = pointwise-drop test n xs ys ((and_parts _ _ e).1)

pointwise-take : {A B : Type 0} (test : A → B → Bool) (n : ℕ) (xs : List A) (ys : List B)
    → pointwise test xs ys ≡ true → pointwise test (take n xs) (take n ys) ≡ true
pointwise-take test zero xs ys e = refl
pointwise-take test (suc n) [] [] e = e
pointwise-take test (suc n) [] (y ∷ ys) e = cc
pointwise-take test (suc n) (x ∷ xs) [] e = cc
pointwise-take test (suc n) (x ∷ xs) (y ∷ ys) e =
    let both = and_parts _ _ e in and_from _ _ both.0 (pointwise-take test n xs ys both.1)

-- if a shape is all `0`, what has it is digits
all_digits : (shape text : List ℕ) → list_all (λ s. s == 48) shape ≡ true → has_shape shape text ≡ true
    → all_ascii_digits text ≡ true
all_digits [] [] zeros fits = refl
all_digits [] (c ∷ cs) zeros fits = cc
all_digits (s ∷ ss) [] zeros fits = refl
all_digits (s ∷ ss) (c ∷ cs) zeros fits =
    let first = and_parts (s == 48) (list_all (λ t. t == 48) ss) zeros in
    let both = and_parts (fits_shape s c) (has_shape ss cs) fits in
    let digit : is_ascii_digit c ≡ true = rw first.0 at both.0 in
    and_from (is_ascii_digit c) (all_ascii_digits cs) digit (all_digits ss cs first.1 both.1)

-- a text has digits wherever its shape is `0` from place a up to b
pub digits_at : (shape text : List ℕ) (a b : ℕ) → list_all (λ s. s == 48) (slice_range shape a b) ≡ true
    → has_shape shape text ≡ true → all_ascii_digits (slice_range text a b) ≡ true
digits_at shape text a b zeros fits =
    all_digits (slice_range shape a b) (slice_range text a b) zeros
    (pointwise-take fits_shape (b - a) (drop a shape) (drop a text) (pointwise-drop fits_shape a shape text fits))

-- digits are what `parse` reads
pub decimal_digits : IsNumeralModel (λ ds. all_ascii_digits ds ≡ true) (digits_value 10)
decimal_digits = numerals_by_value _ tells_all_ascii_digits

ascii_digit : (c : ℕ) → is_ascii_digit c ≡ true → c < 128
ascii_digit c e = grind (arith, nat_tests)

-- digits are text
IsAscii-digits : (text : List ℕ) → all_ascii_digits text ≡ true → IsAscii text
IsAscii-digits [] e = IsAscii-nil
IsAscii-digits (c ∷ cs) e =
    let both = and_parts (is_ascii_digit c) (all_ascii_digits cs) e in
    IsAscii-cons c cs (ascii_digit c both.0) (IsAscii-digits cs both.1)

pub IsUtf8-digits : (text : List ℕ) → all_ascii_digits text ≡ true → IsUtf8 text
IsUtf8-digits text e = IsUtf8-from_ascii text (IsAscii-digits text e)

-- what is no error is a value
pub IsOk-unless : {T E : Type 0} (r : Result T E) (P : T → Type 0) (Q : E → Type 0) → MatchResult r P Q
    → ((e : E) → Q e → ⊥) → IsOk r
IsOk-unless (Ok x) P Q cases not = refl
IsOk-unless (Err e) P Q cases not = absurd (not e cases)

-- one to four digits parse to their number
pub parses_digits : {E : Type 0} (digits text : List ℕ) (r : Result ℕ E) → text ≡ digits
    → all_ascii_digits digits ≡ true → 1 ≤ length digits → length digits ≤ 4 → ParsesUnsigned 16 10 text r
    → r ≡ Ok (digits_value 10 digits)
parses_digits digits text r same are some few h =
    let parsed = rw same at h in
    let small : digits_value 10 digits < 10 ^ 4 = digits_value_short decimal_digits digits 4 are few in
    parse_gives decimal_digits 16 digits r parsed are (omega arith) (omega arith)

pub digits_bound : (digits : List ℕ) → all_ascii_digits digits ≡ true
    → digits_value 10 digits < 10 ^ length digits
digits_bound digits are = digits_value_short decimal_digits digits (length digits) are (omega arith)
