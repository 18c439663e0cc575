-- Every problem has a best roster: the search of the code, told of what a rule says and not of what a
-- test answers. Whether a list is legal is decided under a double negation alone.
use Rattle.std.proofs.Common.{◌≡◌, ℕ, zero, suc, ◌+◌, ◌<◌, ◌⊎◌, List, [], ◌∷◌, ◌++◌, length, get_or, take, replicate, Some, ap₂, refl, sym, ◌∙◌, inl, inr, arith}
use Rattle.std.proofs.lemmas.Bool.{cases_Bool, cases_lt}
use Rattle.std.proofs.lemmas.List.{take_more, take_all, length-append}
use Rattle.roster_model.specs.Problem.{Problem}
use Rattle.roster_model.specs.Costs.{cost_of}
use Rattle.roster_model.specs.Rosters.{IsLegalRoster, Key, key_of, key_le}
use Rattle.roster_model.specs.Settled.{Anywhere, IsBest, IsHeld, Settles}
use Rattle.roster_model.proofs.SettledLemmas.{Settles-nothing, Settles-then, Settles-taken, Settles-left, Settles-illegal, Settles-all}
use Rattle.roster_model.proofs.RosterLemmas.{all_open_legal}

-- there can't but be a key that settles the region
abbrev Settleable : Problem → (List ℕ → Type 0) → Key → Type 0
Settleable problem Region old = ¬ ¬ ((new : Key) × Settles problem Region Anywhere (Some old) new)

-- one list
settle_list : (problem : Problem) (places : List ℕ) (old : Key) → IsHeld problem old
    → Settleable problem (λ others. others ≡ places) old
settle_list problem places old held = λ none.
    none (
      old,
      Settles-illegal problem Anywhere old places held (λ legal.
          elim (cases_Bool (key_le old (key_of problem places))) [
            | inl before ↦ none (old, Settles-left problem Anywhere old (cost_of problem places) places held refl before)
            | inr after ↦ none (key_of problem places, Settles-taken problem Anywhere old (cost_of problem places) places places refl refl legal tt after)
          ]),
    )

-- two regions after one another, which cover a third
settle_both : (problem : Problem) (First Second Both : List ℕ → Type 0) (old : Key)
    → Settleable problem First old → ((mid : Key) → IsHeld problem mid → Settleable problem Second mid)
    → ((others : List ℕ) → IsLegalRoster problem others → Both others → First others ⊎ Second others)
    → Settleable problem Both old
settle_both problem First Second Both old first second covers = λ none.
    first (λ one. second one.0 one.1.held (λ two.
    none (two.0, Settles-then problem First Second Both Anywhere (Some old) one.0 two.0 one.1 two.1 covers)))

-- the lists that begin with these numbers
abbrev BeginsWith : List ℕ → List ℕ → Type 0
BeginsWith front others = take (length front) others ≡ front

goes_on : (others front : List ℕ) (x : ℕ) → length front < length others → BeginsWith front others
    → get_or others (length front) 0 ≡ x → BeginsWith (front ++ x ∷ []) others
goes_on others front x within begins number =
    let one_more : length (front ++ x ∷ []) ≡ length front + 1 = length-append front (x ∷ []) in
    rw one_more (take_more others (length front) 0 within ∙ ap₂ (λ xs y. xs ++ y ∷ []) begins number)

-- those that go on with a number below j
settle_numbers : (problem : Problem) (front : List ℕ) (j : ℕ) → length front < length problem.pairings
    → ((x : ℕ) (old : Key) → IsHeld problem old → Settleable problem (BeginsWith (front ++ x ∷ [])) old)
    → (old : Key) → IsHeld problem old
    → Settleable problem (λ others. BeginsWith front others × (get_or others (length front) 0 < j)) old
settle_numbers problem front zero within each old held = λ none.
    none (old, Settles-nothing problem (λ others. BeginsWith front others × (get_or others (length front) 0 < zero)) Anywhere old held (λ others inside. omega (arith, inside.1)))
settle_numbers problem front (suc j) within each old held =
    settle_both problem
    (λ others. BeginsWith front others × (get_or others (length front) 0 < j))
    (BeginsWith (front ++ j ∷ []))
    (λ others. BeginsWith front others × (get_or others (length front) 0 < suc j))
    old (settle_numbers problem front j within each old held) (each j)
    (λ others legal both. elim (cases_lt (get_or others (length front) 0) j) [
      | inl before ↦ inl (both.0, before)
      | inr here ↦ inr (goes_on others front j (omega (arith, within, legal.covers)) both.0 (omega (arith, here, both.1)))
    ])

-- all that begin with these numbers, of which n are left
settle_front : (problem : Problem) (n : ℕ) (front : List ℕ) → length front + n ≡ length problem.pairings
    → (old : Key) → IsHeld problem old → Settleable problem (BeginsWith front) old
settle_front problem zero front whole old held =
    let NoOther : List ℕ → Type 0 = λ others. ⊥ in
    settle_both problem (λ others. others ≡ front) NoOther (BeginsWith front) old
    (settle_list problem front old held)
    (λ mid keeps none. none (mid, Settles-nothing problem NoOther Anywhere mid keeps (λ _ no. no)))
    (λ others legal begins. inl (sym (take_all (length front) others (omega (arith, whole, legal.covers))) ∙ begins))
settle_front problem (suc n) front whole old held =
    let within : length front < length problem.pairings = omega (arith, whole) in
    let Below : List ℕ → Type 0 =
    λ others. BeginsWith front others × (get_or others (length front) 0 < length problem.persons + 1) in
    let NoOther : List ℕ → Type 0 = λ others. ⊥ in
    settle_both problem Below NoOther (BeginsWith front) old
    (settle_numbers problem front (length problem.persons + 1) within
    (λ x. settle_front problem n (front ++ x ∷ []) (let one_more = length-append front (x ∷ []) in omega (arith, whole, one_more)))
    old held)
    (λ mid keeps none. none (mid, Settles-nothing problem NoOther Anywhere mid keeps (λ _ no. no)))
    (λ others legal begins. inl (begins, let most = legal.numbers (length front) 0 (omega (arith, within, legal.covers)) in omega (arith, most)))

pub best_exists : (problem : Problem) → ¬ ¬ ((places : List ℕ) × IsBest problem places)
best_exists problem none =
    let start : List ℕ = replicate (length problem.pairings) (length problem.persons) in
    let held : IsHeld problem (key_of problem start) =
    record { legal = all_open_legal problem; cost = refl } in
    settle_front problem (length problem.pairings) [] (omega arith) (key_of problem start) held
    (λ found. none (found.0.places, Settles-all problem (BeginsWith []) Anywhere (Some (key_of problem start)) found.0 found.1 (λ others. refl)))
