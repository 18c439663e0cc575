-- Names that are told apart by their last bytes, and the place of a name among entries.
use Rattle.std.proofs.Common.{◌≡◌, ◌<◌, ◌+◌, ◌-◌, ◌==◌, ℕ, Bool, true, false, List, [], ◌∷◌, ◌++◌, length, get_or, set, inl, inr, Option, Some, None, refl, sym, ap, ◌∙◌, eq-eqb, arith}
use Rattle.std.specs.Prelude.{nat_lt, slice_get}
use Rattle.std.specs.List.{position_or_len}
use Rattle.std.proofs.Math.Seq.{map-set_same}
use Rattle.std.specs.Option.{option_eq}
use Rattle.std.specs.Str.{bytes_eq}
use Rattle.std.proofs.lemmas.Bool.{cases_lt}
use Rattle.std.proofs.lemmas.Bool.Decides.{nat_tests}
use Rattle.std.proofs.lemmas.List.{get_or-map, length-map, map-append}
use Rattle.std.proofs.lemmas.List.Sums.{position_or_len_is}
use Rattle.std.proofs.lemmas.Slice.Eq.{bytes_eq-Decides}
use Rattle.roster_model.specs.Record.{place_named}
use Rattle.roster_book.specs.Keys.{key_of_name, keys_of}

same_option : (last : Option ℕ) → option_eq (λ a b. a == b) last last ≡ true
same_option None = refl
same_option (Some byte) = eq-eqb byte byte refl

pub last_tells : (xs ys : List ℕ)
    → option_eq (λ a b. a == b) (slice_get xs (length xs - 1)) (slice_get ys (length ys - 1)) ≡ false
    → bytes_eq xs ys ≡ false
last_tells xs ys apart =
    let P : Bool → Type 0 = λ b. bytes_eq xs ys ≡ b → b ≡ false in
    elim (bytes_eq xs ys) as P [
      | true ↦ λ e.
          let same : xs ≡ ys = (bytes_eq-Decides xs ys).0 e in
          let last = ap (λ zs. option_eq (λ a b. a == b) (slice_get zs (length zs - 1)) (slice_get ys (length ys - 1))) same in
          sym (same_option (slice_get ys (length ys - 1))) ∙ sym last ∙ apart
      | false ↦ λ e. refl
    ] refl

-- ---- keys

-- equal names have equal keys
key_tells : (xs ys : List ℕ) → ¬ (key_of_name xs ≡ key_of_name ys) → bytes_eq xs ys ≡ false
key_tells xs ys apart =
    let P : Bool → Type 0 = λ b. bytes_eq xs ys ≡ b → b ≡ false in
    elim (bytes_eq xs ys) as P [ true ↦ λ e. absurd (apart (ap key_of_name ((bytes_eq-Decides xs ys).0 e))) | false ↦ λ e. refl ] refl

pub keys_count : {X : Type 0} (id_of : X → List ℕ) (keys : List ℕ) (xs : List X) → keys ≡ keys_of id_of xs
    → length keys ≡ length xs
keys_count id_of keys xs h = rw h (length-map xs (λ x. key_of_name (id_of x)))

-- one more entry
pub keys_more : {X : Type 0} (id_of : X → List ℕ) (keys : List ℕ) (xs : List X) (x : X) (key : ℕ)
    → keys ≡ keys_of id_of xs
    → key ≡ key_of_name (id_of x) → keys ++ key ∷ [] ≡ keys_of id_of (xs ++ x ∷ [])
keys_more id_of keys xs x key h e = rw (h, e) (sym (map-append (λ x. key_of_name (id_of x)) xs (x ∷ [])))

-- an entry in the place of another with its name
pub keys_kept : {X : Type 0} (id_of : X → List ℕ) (keys : List ℕ) (xs : List X) (i : ℕ) (y d : X)
    → keys ≡ keys_of id_of xs
    → id_of y ≡ id_of (get_or xs i d) → keys ≡ keys_of id_of (set xs i y)
keys_kept id_of keys xs i y d h e =
    h ∙ sym (map-set_same (λ x. key_of_name (id_of x)) xs i y d (ap key_of_name e))

-- an entry with another key has another name
pub other_key : {X : Type 0} (id_of : X → List ℕ) (name keys : List ℕ) (xs : List X) (i : ℕ) (d : X)
    → keys ≡ keys_of id_of xs
    → i < length keys → ¬ (get_or keys i 0 ≡ key_of_name name) → bytes_eq (id_of (get_or xs i d)) name ≡ false
other_key id_of name keys xs i d h within apart =
    let there : i < length xs = rw (keys_count id_of keys xs h) at within in
    let key : get_or keys i 0 ≡ key_of_name (id_of (get_or xs i d)) =
    rw h (get_or-map (λ x. key_of_name (id_of x)) xs i d 0 there) in
    key_tells (id_of (get_or xs i d)) name (λ e. apart (key ∙ e))

-- ---- the place of a name

-- no entry before the next one has it, if this one hasn't
pub none_more : {X : Type 0} (p : X → Bool) (xs : List X) (i : ℕ) → ((d : X) → p (get_or xs i d) ≡ false)
    → ((k : ℕ) (d : X) → k < i → p (get_or xs k d) ≡ false) → (k : ℕ) (d : X) → k < i + 1
    → p (get_or xs k d) ≡ false
none_more p xs i here before k d below =
    elim (cases_lt k i) [
      | inl earlier ↦ before k d earlier
      | inr later ↦
          let same : k ≡ i = omega arith in
          rw same (here d)
    ]

before_end : (i n : ℕ) → i < n → nat_lt i n ≡ true
before_end i n h = grind (arith, nat_tests)

at_end : (n : ℕ) → nat_lt n n ≡ false
at_end n = grind (arith, nat_tests)

-- it is the place of the first entry that has it
pub first_named : {X : Type 0} (id_of : X → List ℕ) (name : List ℕ) (xs : List X) (i : ℕ) (d : X)
    → i < length xs
    → ((k : ℕ) → k < i → bytes_eq (id_of (get_or xs k d)) name ≡ false)
    → bytes_eq (id_of (get_or xs i d)) name ≡ true → place_named id_of name xs ≡ Some i
unfolding place_named
first_named id_of name xs i d within others here =
    let first : position_or_len (λ x. bytes_eq (id_of x) name) xs ≡ i =
    position_or_len_is (λ x. bytes_eq (id_of x) name) xs i d (omega arith) others (λ _. here) in
    rw (first, before_end i (length xs) within) refl

-- it has none where no entry has it
pub none_named : {X : Type 0} (id_of : X → List ℕ) (name : List ℕ) (xs : List X)
    → ((k : ℕ) (d : X) → k < length xs → bytes_eq (id_of (get_or xs k d)) name ≡ false)
    → place_named id_of name xs ≡ None
unfolding place_named
none_named id_of name [] others = refl
none_named id_of name (x ∷ xs) others =
    let none : position_or_len (λ x. bytes_eq (id_of x) name) (x ∷ xs) ≡ length (x ∷ xs) =
    position_or_len_is (λ x. bytes_eq (id_of x) name) (x ∷ xs) (length (x ∷ xs)) x (omega arith)
    (λ k h. others k x h) (λ h. absurd (omega arith)) in
    rw (none, at_end (length (x ∷ xs))) refl
