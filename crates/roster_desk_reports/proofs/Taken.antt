-- Which names of pairings were given, by the roster that they made.
use Rattle.std.proofs.Common.{◌≡◌, ℕ, ◌+◌, ◌<◌, ◌≤◌, ◌++◌, ◌∷◌, [], List, Bool, None, Some, true, false, length, refl, sym, ap, ◌∙◌, subst, inl, inr, arith}
use Rattle.std.specs.Prelude.{All, slice_get, take, drop}
use Rattle.std.specs.List.{list_any}
use Rattle.std.specs.Option.{option_or}
use Rattle.std.specs.Str.{bytes_eq}
use Rattle.std.proofs.lemmas.Bool.{cases_Bool, false≢true, or_cases, or_left, or_right}
use Rattle.std.proofs.lemmas.List.Folds.{list_any-append}
use Rattle.std.proofs.lemmas.List.Quantifiers.{position-Some}
use Rattle.std.proofs.Math.ListN.{drop_of_length-le}
use Rattle.std.proofs.lemmas.List.{append_assoc, at_drop_more, take_all, take_more}
use Rattle.std.proofs.lemmas.Option.{get_or_from_slice_get, same_Some}
use Rattle.std.proofs.lemmas.Slice.Eq.{bytes_eq-Decides}
use Rattle.roster_model.specs.Problem.{Problem}
use Rattle.roster_model.specs.Record.{place_named}
use Rattle.roster_desk_reports.specs.Faults.{given_fault, name_fault, names_fault, placing_fault, told_or}
use Rattle.roster_desk_reports.specs.Given.{AreTaken, Grows, HasPairing, IsPairing}
use Rattle.roster_desk_reports.specs.Text.{Given}
use Rattle.roster_desk_reports.specs.declared.fault.Wrong.{Wrong}
use Rattle.roster_desk_reports.proofs.Growth.{nobody_has}

-- an entry has one name
named_alike : {X : Type 0} (id_of : X → List ℕ) (a b : List ℕ) (xs : List X) (p : ℕ)
    → place_named id_of a xs ≡ Some p → place_named id_of b xs ≡ Some p → a ≡ b
unfolding place_named
named_alike id_of a b [] p here there = absurd cc
named_alike id_of a b (x ∷ xs) p here there =
    let first = position-Some (λ entry. bytes_eq (id_of entry) a) (x ∷ xs) p x here in
    let second = position-Some (λ entry. bytes_eq (id_of entry) b) (x ∷ xs) p x there in
    sym ((bytes_eq-Decides _ a).0 first.1) ∙ (bytes_eq-Decides _ b).0 second.1

-- the one element passes
one_any : (passes : List ℕ → Bool) (x : List ℕ) → list_any passes (x ∷ []) ≡ true → passes x ≡ true
one_any passes x any = elim (cases_Bool (passes x)) [
  | inl here ↦ here
  | inr apart ↦
      let none : list_any passes (x ∷ []) ≡ false = rw apart refl in
      absurd (false≢true (sym none ∙ any))
]

-- ---- what is wrong with a name

pub free_name : (problem : Problem) (places : List ℕ) (before : List (List ℕ)) (name : List ℕ) (p k : ℕ)
    → IsPairing problem name p → AreTaken problem places before → k ≡ length problem.persons
    → slice_get places p ≡ Some k → name_fault problem before name ≡ None
free_name problem places before name p k named taken nobody at =
    elim (cases_Bool (list_any (bytes_eq name) before)) [
      | inl any ↦
          let had = taken.to p name named any in
          let same : k ≡ had.0 = same_Some k had.0 (sym at ∙ had.2) in
          absurd (omega (arith, same, had.1, nobody))
      | inr none ↦ rw (named, none) refl
    ]

-- one name more
pub taken_next : (problem : Problem) (before : List (List ℕ)) (name : List ℕ) (number : ℕ) (old new : List ℕ)
    → number < length problem.persons → AreTaken problem old before
    → Grows problem (λ p k. (k ≡ number) × IsPairing problem name p) old new
    → HasPairing problem new number name → AreTaken problem new (before ++ name ∷ [])
taken_next problem before name number old new few taken grows has = record {
  from = λ p k other below at named.
      let earlier = list_any (bytes_eq other) before in
      let last = list_any (bytes_eq other) (name ∷ []) in
      let both = list_any-append (bytes_eq other) before (name ∷ []) in
      elim (grows.only p k below at) [
        | inl had ↦ both ∙ or_left earlier last (taken.from p k other below had named)
        | inr given ↦
            let same : other ≡ name = named_alike (λ pairing. pairing.id) other name problem.pairings p named given.1 in
            let is : bytes_eq other name ≡ true = (bytes_eq-Decides other name).1 same in
            both ∙ or_right earlier last (rw is refl)
      ];
  to = λ p other named any.
      let both = list_any-append (bytes_eq other) before (name ∷ []) in
      elim (or_cases _ _ (sym both ∙ any)) [
        | inl earlier ↦
            let had = taken.to p other named earlier in
            (had.0, had.1, grows.keeps p had.0 had.1 had.2)
        | inr later ↦
            let same : other ≡ name = (bytes_eq-Decides other name).0 (one_any (bytes_eq other) name later) in
            let place : has.0 ≡ p = same_Some has.0 p (sym has.1 ∙ ap (λ text. place_named (λ pairing. pairing.id) text problem.pairings) (sym same) ∙ named) in
            (number, few, subst (λ q. slice_get new q ≡ Some number) place has.2)
      ];
}

-- ---- the names of a list

-- the first ones, and the next
pub names_more : (before names : List (List ℕ)) (i : ℕ) (name : List ℕ) → i < length names
    → slice_get names i ≡ Some name → (before ++ take i names) ++ name ∷ [] ≡ before ++ take (i + 1) names
names_more before names i name few at =
    append_assoc before (take i names) (name ∷ [])
    ∙ ap (λ more. before ++ more) (ap (λ last. take i names ++ last ∷ []) (sym (get_or_from_slice_get names i name name at)) ∙ sym (take_more names i name few))

-- what is told of the rest is told by the next name,
names_at : (problem : Problem) (before names : List (List ℕ)) (i : ℕ) (name : List ℕ)
    → i < length names → slice_get names i ≡ Some name
    → names_fault problem before (drop i names)
    ≡ option_or (name_fault problem before name) (names_fault problem (before ++ name ∷ []) (drop (i + 1) names))
names_at problem before names i name few at =
    at_drop_more (names_fault problem before) names i name few
    ∙ ap (λ other. option_or (name_fault problem before other) (names_fault problem (before ++ other ∷ []) (drop (i + 1) names))) (get_or_from_slice_get names i name name at)

-- or by those behind it
pub names_next : (problem : Problem) (before names : List (List ℕ)) (i : ℕ) (name : List ℕ)
    → i < length names → slice_get names i ≡ Some name
    → name_fault problem (before ++ take i names) name ≡ None
    → names_fault problem (before ++ take i names) (drop i names)
    ≡ names_fault problem (before ++ take (i + 1) names) (drop (i + 1) names)
names_next problem before names i name few at sound =
    names_at problem (before ++ take i names) names i name few at
    ∙ ap (λ told. option_or told (names_fault problem ((before ++ take i names) ++ name ∷ []) (drop (i + 1) names))) sound
    ∙ ap (λ all. names_fault problem all (drop (i + 1) names)) (names_more before names i name few at)

pub names_stop : (problem : Problem) (before names : List (List ℕ)) (i : ℕ) (name : List ℕ) (wrong : Wrong)
    → i < length names → slice_get names i ≡ Some name → name_fault problem before name ≡ Some wrong
    → names_fault problem before (drop i names) ≡ Some wrong
names_stop problem before names i name wrong few at fault =
    names_at problem before names i name few at
    ∙ ap (λ told. option_or told (names_fault problem (before ++ name ∷ []) (drop (i + 1) names))) fault

-- at the end all were put
pub names_done : (problem : Problem) (before names : List (List ℕ)) (i : ℕ) (new : List ℕ) → length names ≤ i
    → AreTaken problem new (before ++ take i names)
    → names_fault problem (before ++ take i names) (drop i names) ≡ names_fault problem before names
    → (names_fault problem before names ≡ None) × AreTaken problem new (before ++ names)
names_done problem before names i new past taken same = (
  sym same ∙ ap (names_fault problem (before ++ take i names)) (drop_of_length-le names past),
  subst (λ all. AreTaken problem new (before ++ all)) (take_all i names past) taken,
)

-- ---- the lines of a report

-- what is told of the rest is told by the next line,
placing_at : (problem : Problem) (before : List (List ℕ)) (all : List (ℕ × Given)) (i : ℕ) (here : ℕ × Given)
    → i < length all → slice_get all i ≡ Some here → placing_fault problem before (drop i all)
    ≡ told_or here.0 (given_fault problem before here.1) (placing_fault problem (before ++ here.1.1) (drop (i + 1) all))
placing_at problem before all i here few at =
    at_drop_more (placing_fault problem before) all i here few
    ∙ ap (λ other. told_or other.0 (given_fault problem before other.1) (placing_fault problem (before ++ other.1.1) (drop (i + 1) all))) (get_or_from_slice_get all i here here at)

-- or by those behind it
pub placing_next : (problem : Problem) (before : List (List ℕ)) (all : List (ℕ × Given)) (i : ℕ) (here : ℕ × Given)
    → i < length all → slice_get all i ≡ Some here → given_fault problem before here.1 ≡ None
    → placing_fault problem before (drop i all) ≡ placing_fault problem (before ++ here.1.1) (drop (i + 1) all)
placing_next problem before all i here few at sound =
    placing_at problem before all i here few at
    ∙ ap (λ told. told_or here.0 told (placing_fault problem (before ++ here.1.1) (drop (i + 1) all))) sound

pub placing_stop : (problem : Problem) (before : List (List ℕ)) (all : List (ℕ × Given)) (i : ℕ) (here : ℕ × Given) (wrong : Wrong)
    → i < length all → slice_get all i ≡ Some here → given_fault problem before here.1 ≡ Some wrong
    → placing_fault problem before (drop i all) ≡ Some (here.0, wrong)
placing_stop problem before all i here wrong few at fault =
    placing_at problem before all i here few at
    ∙ ap (λ told. told_or here.0 told (placing_fault problem (before ++ here.1.1) (drop (i + 1) all))) fault

-- none has a pairing of a roster in which each is open
pub none_taken : (problem : Problem) (places : List ℕ) → All (λ x. x ≡ length problem.persons) places
    → AreTaken problem places []
none_taken problem places nobody = record {
  from = λ p k name few at named. absurd (nobody_has (length problem.persons) places p k nobody few at);
  to = λ p name named any. absurd (false≢true any);
}
