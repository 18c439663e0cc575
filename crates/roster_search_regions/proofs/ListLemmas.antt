-- What a list contains, through a filter and a map, and how long a filter is.
use Rattle.std.proofs.Common.{◌≡◌, ℕ, zero, suc, ◌<◌, ◌≤◌, Bool, true, false, not, cond, ◌&&◌, ◌||◌, List, [], ◌∷◌, length, get_or, map, refl, sym, ap, ◌∙◌, subst, ◌⊎◌, inl, inr, arith}
use Rattle.std.specs.Prelude.{Contains, filter}
use Rattle.std.specs.List.{list_any, list_all}
use Rattle.std.proofs.lemmas.Bool.{both_ways}

pub Contains-here : {X : Type 0} (x : X) (xs : List X) → Contains (x ∷ xs) x
Contains-here x xs = (0, omega arith, refl)

pub Contains-there : {X : Type 0} (y : X) (xs : List X) (x : X) → Contains xs x → Contains (y ∷ xs) x
Contains-there y xs x h = (suc h.0, omega (arith, h.1), h.2)

pub Contains-cases : {X : Type 0} (y : X) (xs : List X) (x : X) → Contains (y ∷ xs) x
    → (y ≡ x) ⊎ Contains xs x
Contains-cases {X} y xs x h = go h.0 h.1 h.2
  where
    go : (k : ℕ) → k < length (y ∷ xs) → get_or (y ∷ xs) k x ≡ x → (y ≡ x) ⊎ Contains xs x
    go zero inside same = inl same
    go (suc k) inside same = inr (k, omega arith, same)

pub Contains-nil : {X : Type 0} (x : X) → Contains [] x → ⊥
Contains-nil x h = omega (arith, h.1)

pub Contains-filter : {X : Type 0} (test : X → Bool) (xs : List X) (x : X) → Contains xs x → test x ≡ true
    → Contains (filter test xs) x
Contains-filter test [] x h passes = absurd (Contains-nil x h)
Contains-filter {X} test (y ∷ xs) x h passes =
    go (λ rest. Contains-filter test xs x rest passes) (test y) refl (Contains-cases y xs x h)
  where
    go : (Contains xs x → Contains (filter test xs) x) → (b : Bool) → test y ≡ b → (y ≡ x) ⊎ Contains xs x
        → Contains (cond b (y ∷ filter test xs) (filter test xs)) x
    go later true e (inl same) = subst (Contains (y ∷ filter test xs)) same (Contains-here y (filter test xs))
    go later true e (inr rest) = Contains-there y (filter test xs) x (later rest)
    go later false e (inl same) = absurd (both_ways (test x) (ap test (sym same) ∙ e) passes)
    go later false e (inr rest) = later rest

pub Contains-from_filter : {X : Type 0} (test : X → Bool) (xs : List X) (x : X) → Contains (filter test xs) x
    → Contains xs x
Contains-from_filter test [] x h = absurd (Contains-nil x h)
Contains-from_filter {X} test (y ∷ xs) x h = go (Contains-from_filter test xs x) (test y) h
  where
    go : (Contains (filter test xs) x → Contains xs x) → (b : Bool)
        → Contains (cond b (y ∷ filter test xs) (filter test xs)) x → Contains (y ∷ xs) x
    go later true there = elim (Contains-cases y (filter test xs) x there) [
      | inl same ↦ subst (Contains (y ∷ xs)) same (Contains-here y xs)
      | inr rest ↦ Contains-there y xs x (later rest)
    ]
    go later false there = Contains-there y xs x (later there)

pub passes-from_filter : {X : Type 0} (test : X → Bool) (xs : List X) (x : X) → Contains (filter test xs) x
    → test x ≡ true
passes-from_filter test [] x h = absurd (Contains-nil x h)
passes-from_filter {X} test (y ∷ xs) x h = go (passes-from_filter test xs x) (test y) refl h
  where
    go : (Contains (filter test xs) x → test x ≡ true) → (b : Bool) → test y ≡ b
        → Contains (cond b (y ∷ filter test xs) (filter test xs)) x → test x ≡ true
    go later true e there = elim (Contains-cases y (filter test xs) x there) [
      | inl same ↦ ap test (sym same) ∙ e
      | inr rest ↦ later rest
    ]
    go later false e there = later there

pub Contains-map : {X Y : Type 0} (f : X → Y) (xs : List X) (x : X) → Contains xs x
    → Contains (map f xs) (f x)
Contains-map f [] x h = absurd (Contains-nil x h)
Contains-map f (y ∷ xs) x h = elim (Contains-cases y xs x h) [
  | inl same ↦ subst (Contains (f y ∷ map f xs)) (ap f same) (Contains-here (f y) (map f xs))
  | inr rest ↦ Contains-there (f y) (map f xs) (f x) (Contains-map f xs x rest)
]

pub Contains-from_map : {X Y : Type 0} (f : X → Y) (xs : List X) (y : Y) → Contains (map f xs) y
    → (x : X) × Contains xs x × (f x ≡ y)
Contains-from_map f [] y h = absurd (Contains-nil y h)
Contains-from_map f (x ∷ xs) y h = elim (Contains-cases (f x) (map f xs) y h) [
  | inl same ↦ (x, Contains-here x xs, same)
  | inr rest ↦
      let there = Contains-from_map f xs y rest in
      (there.0, Contains-there x xs there.0 there.1, there.2)
]

pub length-filter-le : {X : Type 0} (test : X → Bool) (xs : List X) → length (filter test xs) ≤ length xs
length-filter-le test [] = omega arith
length-filter-le {X} test (x ∷ xs) = go (length-filter-le test xs) (test x)
  where
    go : length (filter test xs) ≤ length xs → (b : Bool)
        → length (cond b (x ∷ filter test xs) (filter test xs)) ≤ length (x ∷ xs)
    go rest true = omega arith
    go rest false = omega arith

-- a filter that something fails is shorter
pub length-filter-lt : {X : Type 0} (test : X → Bool) (xs : List X) → list_all test xs ≡ false
    → length (filter test xs) < length xs
length-filter-lt test [] fails = absurd (both_ways true fails refl)
length-filter-lt {X} test (x ∷ xs) fails =
    go (length-filter-lt test xs) (length-filter-le test xs) (test x) refl
  where
    go : (list_all test xs ≡ false → length (filter test xs) < length xs)
        → length (filter test xs) ≤ length xs → (b : Bool) → test x ≡ b
        → length (cond b (x ∷ filter test xs) (filter test xs)) < length (x ∷ xs)
    go shorter most true e =
        let rest : list_all test xs ≡ false = rw e at fails in
        let less = shorter rest in
        omega arith
    go shorter most false e = omega arith

-- if some pass, not all fail
pub list_all-not : {X : Type 0} (test : X → Bool) (xs : List X) → list_any test xs ≡ true
    → list_all (λ x. not (test x)) xs ≡ false
list_all-not test [] some = absurd (both_ways false refl some)
list_all-not {X} test (x ∷ xs) some = go (list_all-not test xs) (test x) refl
  where
    go : (list_any test xs ≡ true → list_all (λ y. not (test y)) xs ≡ false) → (b : Bool) → test x ≡ b
        → list_all (λ y. not (test y)) (x ∷ xs) ≡ false
    go later true e = rw e refl
    go later false e =
        let rest : list_any test xs ≡ true = rw e at some in
        rw e (later rest)

pub false_from_not : (b : Bool) → not b ≡ true → b ≡ false
false_from_not true h = sym h
false_from_not false h = refl

pub not_if : (b : Bool) → (b ≡ true → ⊥) → not b ≡ true
not_if true h = absurd (h refl)
not_if false h = refl

-- A test that all pass keeps all, and so does one that lets pass what another one that none passes doesn't.
pub filter-all : {X : Type 0} (test : X → Bool) (xs : List X) → list_all test xs ≡ true → filter test xs ≡ xs
filter-all test [] all = refl
filter-all {X} test (x ∷ xs) all = go (filter-all test xs) (test x) all
  where
    go : (list_all test xs ≡ true → filter test xs ≡ xs) → (b : Bool) → (b && list_all test xs) ≡ true
        → cond b (x ∷ filter test xs) (filter test xs) ≡ x ∷ xs
    go later true all = ap (λ ys. x ∷ ys) (later all)
    go later false all = absurd (both_ways false refl all)

pub filter-none : {X : Type 0} (test : X → Bool) (xs : List X) → list_any test xs ≡ false
    → filter (λ x. not (test x)) xs ≡ xs
filter-none test [] none = refl
filter-none {X} test (x ∷ xs) none = go (filter-none test xs) (test x) none
  where
    go : (list_any test xs ≡ false → filter (λ x. not (test x)) xs ≡ xs) → (b : Bool)
        → (b || list_any test xs) ≡ false
        → cond (not b) (x ∷ filter (λ x. not (test x)) xs) (filter (λ x. not (test x)) xs) ≡ x ∷ xs
    go later true none = absurd (both_ways true none refl)
    go later false none = ap (λ ys. x ∷ ys) (later none)
