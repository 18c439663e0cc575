-- What chains bring, and that each line of a person is a chain.
use Rattle.std.proofs.Common.{◌≡◌, ℕ, ◌+◌, ◌-◌, ◌*◌, ◌<◌, true, ltb, cond, List, [], ◌∷◌, length, get_or, refl, sym, ap, ◌∙◌, subst, inl, inr, arith, ℤ, pos, ◌+ℤ◌, ◌-ℤ◌, ◌*ℤ◌, ◌≤ℤ◌}
use Rattle.std.proofs.Math.Nat.{add-mul}
use Rattle.std.specs.Prelude.{All}
use Rattle.std.specs.List.{sum_by}
use Rattle.std.specs.List.Sorted.{IsStrictlyIncreasing}
use Rattle.std.proofs.lemmas.Bool.{cases_eq, cases_lt, lt-ltb, le-ltb, false≢true}
use Rattle.std.proofs.lemmas.Int.{ints}
use Rattle.std.proofs.lemmas.List.Elements.{All-head, All-tail}
use Rattle.std.proofs.lemmas.List.Sums.{sum_by-cons}
use Rattle.std.proofs.lemmas.Option.{slice_get-get_or}
use Rattle.roster_model.specs.Costs.{flight_of, total}
use Rattle.roster_model.specs.Lines.{IsLine}
use Rattle.roster_model.specs.Problem.{Problem, units_of}
use Rattle.roster_model.specs.Rules.{is_among, IsLegal}
use Rattle.roster_model.proofs.CostLemmas.{total-nil, total-cons}
use Rattle.roster_model.proofs.SetLemmas.{is_among-here, is_among-later, All-is_among, Ascends, Ascends-from_rising}
use Rattle.roster_lines.specs.Listing.{AreTogether}
use Rattle.roster_cost.specs.Amounts.{minutes_of_pairing}
use Rattle.roster_plan_bound.specs.declared.network.Network.{Network}
use Rattle.roster_plan_bound.specs.declared.parts.TheConstants.{PARTS}
use Rattle.roster_plan_bound.specs.Chains.{chain_value, followers_of, next_state, value_at, IsChain, IsRow}
use Rattle.roster_plan_bound.specs.Networks.{missed_at, AreSteps, AreValues, IsNetwork}
use Rattle.roster_plan_bound.specs.Reduced.{price_at, reduced}

-- ---- states

-- steps that follow others come to their sum
pub next_next : (states f a b : ℕ) → 0 < states
    → next_state states (next_state states f a) b ≡ next_state states f (a + b)
next_next states f a b some =
    elim (cases_lt (f + a) states) [
      | inl below ↦
          let there : next_state states f a ≡ f + a = rw (lt-ltb (f + a) states below) refl in
          let same : (f + a) + b ≡ f + (a + b) = omega arith in
          ap (λ g. next_state states g b) there ∙ ap (λ g. cond (ltb g states) g (states - 1)) same
      | inr above ↦
          let there : next_state states f a ≡ states - 1 = rw (le-ltb (f + a) states above) refl in
          let here : next_state states f (a + b) ≡ states - 1 =
          rw (le-ltb (f + (a + b)) states (omega arith)) refl in
          ap (λ g. next_state states g b) there ∙ last b ∙ sym here
    ]
  where
    last : (b : ℕ) → next_state states (states - 1) b ≡ states - 1
    last b = elim (cases_lt ((states - 1) + b) states) [
      | inl below ↦ rw (lt-ltb ((states - 1) + b) states below) omega (arith)
      | inr above ↦ rw (le-ltb ((states - 1) + b) states above) refl
    ]

pub next_none : (states f : ℕ) → f < states → next_state states f 0 ≡ f
next_none states f inside = rw (lt-ltb (f + 0) states (omega arith)) omega arith

pub next_inside : (states f a : ℕ) → 0 < states → next_state states f a < states
next_inside states f a some = elim (cases_lt (f + a) states) [
  | inl below ↦ rw (lt-ltb (f + a) states below) below
  | inr above ↦ rw (le-ltb (f + a) states above) omega arith
]

-- ---- what a chain brings

pub chain-nil : (network : Network) (values : List ℤ) (f : ℕ)
    → chain_value network values f [] ≡ value_at network.terms.items f
unfolding chain_value
chain-nil network values f = refl

pub chain-cons : (network : Network) (values : List ℤ) (f p : ℕ) (rest : List ℕ) → chain_value network values f (p ∷ rest) ≡ value_at values p +ℤ chain_value network values (next_state (length network.terms.items) f (get_or network.steps.items p 0)) rest
unfolding chain_value
chain-cons network values f p rest = refl

-- the values of its pairings, and the end that its steps come to
pub chain_adds : (network : Network) (values : List ℤ) (f : ℕ) (set : List ℕ) → f < length network.terms.items
    → chain_value network values f set ≡ total (value_at values) set +ℤ value_at network.terms.items (next_state (length network.terms.items) f (sum_by (λ p. get_or network.steps.items p 0) set))
chain_adds network values f [] inside =
    let none = total-nil (value_at values) in
    let here = ap (value_at network.terms.items) (next_none (length network.terms.items) f inside) in
    omega (arith, ints, none, here, chain-nil network values f)
chain_adds network values f (p ∷ rest) inside =
    let states = length network.terms.items in
    let step : ℕ = get_or network.steps.items p 0 in
    let more : ℕ = sum_by (λ q. get_or network.steps.items q 0) rest in
    let next : ℕ = next_state states f step in
    let behind = chain_adds network values next rest (next_inside states f step (omega arith)) in
    let first = total-cons (value_at values) p rest in
    let there : value_at network.terms.items (next_state states next more) ≡ value_at network.terms.items (next_state states f (sum_by (λ q. get_or network.steps.items q 0) (p ∷ rest))) =
    ap (value_at network.terms.items) (next_next states f step more (omega arith) ∙ ap (next_state states f) (sym (sum_by-cons (λ q. get_or network.steps.items q 0) p rest))) in
    omega (arith, ints, behind, first, there, chain-cons network values f p rest)

-- ---- lines are chains

pub IsChain-nil : (followers : List (List ℕ)) (first : List ℕ) → IsChain followers first []
unfolding IsChain
IsChain-nil followers first = tt

pub IsChain-cons : (followers : List (List ℕ)) (first : List ℕ) (p : ℕ) (rest : List ℕ)
    → is_among first p ≡ true → IsChain followers (followers_of followers p) rest
    → IsChain followers first (p ∷ rest)
unfolding IsChain
IsChain-cons followers first p rest begins chain = (begins, chain)

-- each two of the set are legal together
abbrev pub AreAllTogether : Problem → ℕ → List ℕ → Type 0
AreAllTogether problem k set =
    (p q : ℕ) → is_among set p ≡ true → is_among set q ≡ true → p < q → AreTogether problem k p q

pub is_among-more : (p q : ℕ) (set : List ℕ) → is_among set q ≡ true → is_among (p ∷ set) q ≡ true
is_among-more p q set there =
    elim (cases_eq q p) [
      | inl same ↦ subst (λ i. is_among (p ∷ set) i ≡ true) (sym same) (is_among-here p set)
      | inr other ↦ is_among-later p q set (λ e. other (sym e)) ∙ there
    ]

pub chain_of : (problem : Problem) (k : ℕ) (network : Network) → IsNetwork problem k network
    → (first set : List ℕ) → Ascends set → All (λ p. p < length problem.pairings) set
    → AreAllTogether problem k set
    → ((p : ℕ) (rest : List ℕ) → set ≡ p ∷ rest → is_among first p ≡ true)
    → IsChain network.followers.items first set
chain_of problem k network is first [] up inside together begins = IsChain-nil network.followers.items first
chain_of problem k network is first (p ∷ rest) up inside together begins =
    let here : p < length problem.pairings = All-head (λ q. q < length problem.pairings) p rest inside in
    let row : List ℕ = followers_of network.followers.items p in
    let follows =
    is.followers p row (slice_get-get_or network.followers.items p [] (omega (arith, is.covers, here))) in
    IsChain-cons network.followers.items first p rest (begins p rest refl)
    (chain_of problem k network is row rest up.1 (All-tail (λ q. q < length problem.pairings) p rest inside)
    (λ a b among_a among_b below. together a b (is_among-more p a rest among_a) (is_among-more p b rest among_b) below)
    (λ q more e.
    let among : is_among rest q ≡ true = subst (λ s. is_among s q ≡ true) (sym e) (is_among-here q more) in
    let above : p < q = All-head (λ r. p < r) q more (subst (All (λ r. p < r)) e up.0) in
    (follows q).1 (together p q (is_among-here p rest) (is_among-more p q rest among) above)))

-- ---- and bring no more than their reduced costs

-- what the pairings of a set bring is their units, less their prices
pub total_values : (problem : Problem) (prices : List ℤ) (k : ℕ) (values : List ℤ)
    → AreValues problem prices k values → (set : List ℕ) → All (λ p. p < length problem.pairings) set
    → total (value_at values) set ≡ (pos PARTS *ℤ total (units_of problem k) set) -ℤ total (price_at prices) set
total_values problem prices k values are [] inside =
    omega
    (arith, ints, total-nil (value_at values), total-nil (units_of problem k), total-nil (price_at prices))
total_values problem prices k values are (p ∷ rest) inside =
    let here = are.each p (All-head (λ q. q < length problem.pairings) p rest inside) in
    let behind =
    total_values problem prices k values are rest
    (All-tail (λ q. q < length problem.pairings) p rest inside) in
    omega (arith, ints, here, behind, total-cons (value_at values) p rest, total-cons (units_of problem k) p rest, total-cons (price_at prices) p rest)

nothing : (n : ℕ) → 0 * n ≡ 0
nothing n = omega arith

-- the steps of a set are its flight
sum_steps : (problem : Problem) (k step : ℕ) (steps : List ℕ) → AreSteps problem k step steps → (set : List ℕ)
    → All (λ p. p < length problem.pairings) set
    → sum_by (λ p. get_or steps p 0) set * step ≡ sum_by (minutes_of_pairing problem k) set
sum_steps problem k step steps are [] inside = nothing step
sum_steps problem k step steps are (p ∷ rest) inside =
    let here = are.each p (All-head (λ q. q < length problem.pairings) p rest inside) in
    let behind =
    sum_steps problem k step steps are rest (All-tail (λ q. q < length problem.pairings) p rest inside) in
    let split : (get_or steps p 0 + sum_by (λ q. get_or steps q 0) rest) * step
    ≡ get_or steps p 0 * step + sum_by (λ q. get_or steps q 0) rest * step =
    add-mul (get_or steps p 0) (sum_by (λ q. get_or steps q 0) rest) step in
    ap (λ n. n * step) (sum_by-cons (λ q. get_or steps q 0) p rest) ∙ split
    ∙ ap (λ n. n + sum_by (λ q. get_or steps q 0) rest * step) here
    ∙ ap (λ n. minutes_of_pairing problem k p + n) behind
    ∙ sym (sum_by-cons (minutes_of_pairing problem k) p rest)

-- the flight of a set is that of the fixed duties and of its pairings
abbrev pub AddsFlight : Problem → ℕ → List ℕ → Type 0
AddsFlight problem k set =
    flight_of problem k set ≡ flight_of problem k [] + sum_by (minutes_of_pairing problem k) set

pub reduced_below : (problem : Problem) (prices : List ℤ) (k : ℕ) (network : Network) (values : List ℤ) (set : List ℕ) → IsNetwork problem k network → AreValues problem prices k values → AddsFlight problem k set → IsLine problem k set
    → chain_value network values 0 set ≤ℤ reduced problem prices k set
reduced_below problem prices k network values set is are adds line =
    let steps : ℕ = sum_by (λ p. get_or network.steps.items p 0) set in
    let chain = chain_adds network values 0 set is.some in
    let brought = total_values problem prices k values are set line.places in
    let end = is.terms steps in
    let flight : flight_of problem k [] + steps * is.step ≡ flight_of problem k set = ap (λ n. flight_of problem k [] + n) (sum_steps problem k is.step network.steps.items is.steps set line.places) ∙ sym adds in
    let there : missed_at problem k (flight_of problem k [] + steps * is.step)
    ≡ missed_at problem k (flight_of problem k set) =
    ap (missed_at problem k) flight in
    let none = total-nil (units_of problem k) in
    omega (arith, ints, chain, brought, end, there, none)

-- what a list of one has, or of two
pub single_among : (set : List ℕ) (p : ℕ) → is_among set p ≡ true → (q : ℕ) → is_among (p ∷ []) q ≡ true
    → is_among set q ≡ true
single_among set p there q among =
    elim (cases_eq q p) [
      | inl same ↦ subst (λ i. is_among set i ≡ true) (sym same) there
      | inr other ↦ absurd (false≢true (sym (is_among-later p q [] (λ e. other (sym e))) ∙ among))
    ]

pub pair_among : (set : List ℕ) (p q : ℕ) → is_among set p ≡ true → is_among set q ≡ true → (r : ℕ)
    → is_among (p ∷ q ∷ []) r ≡ true → is_among set r ≡ true
pair_among set p q there_p there_q r among =
    elim (cases_eq r p) [
      | inl same ↦ subst (λ i. is_among set i ≡ true) (sym same) there_p
      | inr other ↦ single_among set q there_q r (sym (is_among-later p r (q ∷ []) (λ e. other (sym e))) ∙ among)
    ]

-- each two of a line are legal together
pub line_together : (problem : Problem) (k : ℕ) (set : List ℕ)
    → ((whole part : List ℕ) → ((p : ℕ) → is_among part p ≡ true → is_among whole p ≡ true) → IsLegal problem k whole → IsLegal problem k part)
    → IsLine problem k set → AreAllTogether problem k set
line_together problem k set parts line p q among_p among_q below =
    (below, All-is_among (λ r. r < length problem.pairings) set q line.places among_q, parts set (p ∷ q ∷ []) (pair_among set p q among_p among_q) line.legal)

-- a line is a chain
pub line_is_chain : (problem : Problem) (k : ℕ) (network : Network)
    → ((whole part : List ℕ) → ((p : ℕ) → is_among part p ≡ true → is_among whole p ≡ true) → IsLegal problem k whole → IsLegal problem k part)
    → IsNetwork problem k network → (set : List ℕ) → IsLine problem k set
    → IsChain network.followers.items network.first set
line_is_chain problem k network parts is set line =
    let together = line_together problem k set parts line in
    let begins : (p : ℕ) (rest : List ℕ) → set ≡ p ∷ rest → is_among network.first p ≡ true = λ p rest e.
    let among : is_among set p ≡ true = subst (λ s. is_among s p ≡ true) (sym e) (is_among-here p rest) in
    (is.alone p).1 (All-is_among (λ r. r < length problem.pairings) set p line.places among, parts set (p ∷ []) (single_among set p among) line.legal) in
    chain_of problem k network is network.first set
    (Ascends-from_rising set line.ascending) line.places together begins

-- the row of all chains says of each line what it costs at least
pub least_is : (problem : Problem) (prices : List ℤ) (k : ℕ) (network : Network) (values row : List ℤ)
    → ((whole part : List ℕ) → ((p : ℕ) → is_among part p ≡ true → is_among whole p ≡ true) → IsLegal problem k whole → IsLegal problem k part)
    → ((set : List ℕ) → IsStrictlyIncreasing set → AddsFlight problem k set)
    → IsNetwork problem k network → AreValues problem prices k values → IsRow network values network.first row
    → (set : List ℕ) → IsLine problem k set → value_at row 0 ≤ℤ reduced problem prices k set
least_is problem prices k network values row parts adds is are row_is set line =
    let below = row_is.below 0 is.some set (line_is_chain problem k network parts is set line) in
    let cost = reduced_below problem prices k network values set is are (adds set line.ascending) line in
    omega (arith, ints, below, cost)
