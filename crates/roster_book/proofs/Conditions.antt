-- What conditions that are all met say.
use Rattle.std.proofs.Common.{◌≡◌, ℕ, ◌<◌, ◌≤◌, Bool, true, false, cond, not, List, [], ◌∷◌, length, ℤ, pos, negsuc, Option, Some, None, refl, arith}
use Rattle.std.specs.Prelude.{◌==◌, IfSome, unsigned_abs, nat_lt, is_some, unwrap_or}
use Rattle.std.specs.Str.{bytes_eq}
use Rattle.std.specs.List.{position_or_len}
use Rattle.std.proofs.lemmas.Bool.Decides.{nat_tests}
use Rattle.roster_model.specs.Form.{is_amount}
use Rattle.roster_model.specs.Record.{place_named}
use Rattle.roster_model.specs.Code.{Code, first_unmet, number_of_code}
use Rattle.roster_model.specs.declared.limits.TheConstants.{MOST_UNITS}
use Rattle.roster_model.specs.records.Cost.{is_limited}

-- the test of the first condition that has the code
abbrev pub test_of : Code → List (Code × Bool) → Bool
test_of code [] = true
test_of code (condition ∷ conditions) =
    cond (number_of_code condition.0 == number_of_code code) condition.1 (test_of code conditions)

abbrev pub IsMet : Code → List (Code × Bool) → Type 0
IsMet code conditions = test_of code conditions ≡ true

-- if none is unmet, that of each code is met
pub is_met : (conditions : List (Code × Bool)) → first_unmet conditions ≡ None → (code : Code)
    → IsMet code conditions
is_met [] h code = refl
is_met ((other, true) ∷ conditions) h code =
    let P : Bool → Type 0 = λ b. cond b true (test_of code conditions) ≡ true in
    elim (number_of_code other == number_of_code code) as P [ true ↦ refl | false ↦ is_met conditions h code ]
is_met ((other, false) ∷ conditions) h code = cc

found : (i n : ℕ) (b : Bool) → nat_lt i n ≡ b → is_some (cond {A = Option ℕ} b (Some i) None) ≡ true
    → unwrap_or (cond b (Some i) None) 0 < n
found i n true h some = grind (arith, nat_tests)
found i n false h some = cc

pub below : (n most : ℕ) → nat_lt n most ≡ true → n < most
below n most h = grind (arith, nat_tests)

-- a name that is known has a place
pub place-below : {X : Type 0} (id_of : X → List ℕ) (name : List ℕ) (xs : List X)
    → is_some (place_named id_of name xs) ≡ true → unwrap_or (place_named id_of name xs) 0 < length xs
unfolding place_named
place-below id_of name xs some =
    let place : ℕ = position_or_len (λ x. bytes_eq (id_of x) name) xs in
    found place (length xs) (nat_lt place (length xs)) refl some

within : (i n : ℕ) (b : Bool) → nat_lt i n ≡ b
    → IfSome (cond {A = Option ℕ} b (Some i) None) (λ place. place < n)
within i n true h = grind (arith, nat_tests)
within i n false h = tt

pub place-within : {X : Type 0} (id_of : X → List ℕ) (name : List ℕ) (xs : List X)
    → IfSome (place_named id_of name xs) (λ place. place < length xs)
unfolding place_named
place-within id_of name xs =
    let place : ℕ = position_or_len (λ x. bytes_eq (id_of x) name) xs in
    within place (length xs) (nat_lt place (length xs)) refl

pub amount-below : (most : ℕ) (z : ℤ) → is_amount most z ≡ true → unsigned_abs z ≤ most
amount-below most (pos n) h = grind (arith, nat_tests)
amount-below most (negsuc n) h = cc

pub units-below : (z : ℤ) → is_limited z ≡ true → unsigned_abs z ≤ MOST_UNITS
units-below z h = grind (arith, nat_tests)

pub none_given : {X : Type 0} (given : Option X) → not (is_some given) ≡ true → given ≡ None
none_given None h = refl
none_given (Some x) h = cc
