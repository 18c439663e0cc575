-- What pairings cost at least in a legal roster, one after another. A pairing that is open costs its
-- penalty. One that is placed costs the units of a person of the base for whom it is legal alone, since it
-- is part of that person's set. Persons of other bases miss their targets by what their fixed duties leave
-- of them, those of the base by nothing or more.
use Rattle.std.proofs.Common.{◌≡◌, ℕ, suc, ◌+◌, ◌<◌, ◌≤◌, true, eqb, ltb, cond, List, [], ◌∷◌, length, drop, get_or, Some, refl, sym, ap, ◌∙◌, subst, inl, inr, arith, ℤ, pos, ◌+ℤ◌, ◌≤ℤ◌, eq-eqb}
use Rattle.std.specs.Prelude.{slice_get}
use Rattle.std.proofs.lemmas.Option.{get_or_from_slice_get, slice_get-get_or}
use Rattle.std.proofs.lemmas.List.{drop_more, drop_all}
use Rattle.std.specs.List.{range_with_len, sum_by}
use Rattle.std.proofs.lemmas.Bool.{cases_eq, lt-ltb, le-ltb, ne_eqb, false≢true}
use Rattle.std.proofs.lemmas.Int.{ints}
use Rattle.roster_model.specs.records.Pairing.{Pairing}
use Rattle.roster_model.specs.Problem.{Problem, units_of}
use Rattle.roster_model.specs.Places.{set_of, open_number}
use Rattle.roster_model.specs.Rules.{is_among, IsLegal}
use Rattle.roster_model.specs.Costs.{cost_of, open_penalties, placed_units, missed_target, missed_targets}
use Rattle.roster_model.specs.Rosters.{IsLegalRoster}
use Rattle.roster_bases.specs.Bases.{base_of_person, only}
use Rattle.roster_bases.specs.Homes.{EachHomeRoster, IsHome, IsHomeBound}
use Rattle.roster_bases.proofs.Homes.{flown_at_home}
use Rattle.roster_model.proofs.CostLemmas.{total-pos}
use Rattle.roster_model.proofs.SumLemmas.{sum_by-range_more}
use Rattle.roster_model.proofs.SetLemmas.{is_among-later}
use Rattle.roster_model.proofs.PlacesParts.{in_set_of_number}
use Rattle.roster_model.specs.declared.limits.TheConstants.{MOST_UNITS}
use Rattle.roster_cost.specs.Amounts.{IsWithin}
use Rattle.roster_plan.specs.Floors.{IsFloor, IsFloorAmong, IsFloorOf}

-- what the pairings from p on cost
abbrev pub cost_behind : Problem → ℕ → List ℕ → ℤ
cost_behind problem p places =
    pos (open_penalties (open_number problem) (drop p problem.pairings) (drop p places)) +ℤ placed_units problem p (drop p places)

-- what is legal in parts
abbrev pub PartsAreLegal : Problem → Type 0
PartsAreLegal problem =
    (k : ℕ) (set part : List ℕ) → ((p : ℕ) → is_among part p ≡ true → is_among set p ≡ true)
    → IsLegal problem k set → IsLegal problem k part

-- a pairing is legal alone for who has it in a legal roster
alone_legal : (problem : Problem) (p k : ℕ) (places : List ℕ) → PartsAreLegal problem
    → IsLegalRoster problem places → p < length places → k < length problem.persons → get_or places p 0 ≡ k
    → IsLegal problem k (p ∷ [])
alone_legal problem p k places parts roster inside person has =
    parts k (set_of k places) (p ∷ []) (λ q among.
    let same : q ≡ p = elim (cases_eq q p) [
      | inl e ↦ e
      | inr other ↦ absurd (false≢true (sym (is_among-later p q [] (λ e. other (sym e))) ∙ among))
    ] in
    subst (λ i. is_among (set_of k places) i ≡ true) (sym same)
    (in_set_of_number k p places inside has)) (roster.legal k person)

-- what one pairing costs, left open or flown
amount : (n x : ℕ) (penalty : ℕ) (units floor : ℤ) → x ≤ n → floor ≤ℤ pos penalty → (x < n → floor ≤ℤ units)
    → floor ≤ℤ (pos (cond (eqb x n) penalty 0) +ℤ cond (ltb x n) units (pos 0))
amount n x penalty units floor most unflown flown =
    elim (cases_eq x n) [
      | inl same ↦ rw (eq-eqb x n same, le-ltb x n (omega arith)) omega (arith, ints, unflown)
      | inr other ↦ rw (ne_eqb x n other, lt-ltb x n (omega arith)) omega (arith, ints, flown (omega arith))
    ]

-- what the pairings from p on cost, by its own and the next
behind : (problem : Problem) (p : ℕ) (pairing : Pairing) (pairings : List Pairing) (x : ℕ) (places left : List ℕ) → drop p problem.pairings ≡ pairing ∷ pairings → drop p left ≡ x ∷ places
    → cost_behind problem p left ≡ (pos (cond (eqb x (open_number problem)) pairing.penalty 0) +ℤ cond (ltb x (open_number problem)) (units_of problem x p) (pos 0)) +ℤ (pos (open_penalties (open_number problem) pairings places) +ℤ placed_units problem (p + 1) places)
behind problem p pairing pairings x places left e f =
    let n = open_number problem in
    let open_ones : open_penalties n (drop p problem.pairings) (drop p left)
    ≡ cond (eqb x n) pairing.penalty 0 + open_penalties n pairings places =
    rw (e, f) refl in
    let placed : placed_units problem p (drop p left)
    ≡ cond (ltb x n) (units_of problem x p) (pos 0) +ℤ placed_units problem (p + 1) places =
    rw f refl in
    omega (arith, ints, open_ones, placed)

-- a pairing of no list
none : Pairing
none = record { id = []; base = 0; penalty = 0; row = 0 }

pub one_more : (problem : Problem) (base p : ℕ) (floor bound missed : ℤ) (places : List ℕ)
    → PartsAreLegal problem → IsLegalRoster problem places → IsHome problem (only base) places
    → p < length problem.pairings → IsFloor problem base p floor
    → bound ≤ℤ (cost_behind problem (p + 1) places +ℤ missed)
    → (bound +ℤ floor) ≤ℤ (cost_behind problem p places +ℤ missed)
one_more problem base p floor bound missed places parts roster home inside floored below =
    let pairing : Pairing = get_or problem.pairings p none in
    let is : slice_get problem.pairings p ≡ Some pairing = slice_get-get_or problem.pairings p none inside in
    let n = length problem.persons in
    let covers = roster.covers in
    let x : ℕ = get_or places p 0 in
    let there : p < length places = omega (arith, covers) in
    let most : x ≤ n = roster.numbers p 0 there in
    let e : drop p problem.pairings ≡ pairing ∷ drop (p + 1) problem.pairings = drop_more problem.pairings p pairing inside ∙ ap (λ q. q ∷ drop (p + 1) problem.pairings) (get_or_from_slice_get problem.pairings p pairing pairing is) in
    let split =
    behind problem p pairing (drop (p + 1) problem.pairings) x (drop (p + 1) places) places e
    (drop_more places p 0 there) in
    let own = amount n x pairing.penalty (units_of problem x p) floor most (floored.unflown pairing is) (λ person. floored.flown x person (flown_at_home problem (only base) places x p home there person refl) (alone_legal problem p x places parts roster there person refl)) in
    omega (arith, ints, split, own, below)

-- behind the last pairing only missed targets are left
pub nothing_behind : (problem : Problem) (p : ℕ) (missed others : ℤ) (places : List ℕ)
    → IsLegalRoster problem places → p ≡ length problem.pairings → others ≤ℤ missed
    → others ≤ℤ (cost_behind problem p places +ℤ missed)
nothing_behind problem p missed others places roster end less =
    let covers = roster.covers in
    let e : drop p problem.pairings ≡ [] = drop_all p problem.pairings (omega arith) in
    let f : drop p places ≡ [] = drop_all p places (omega arith) in
    rw (e, f) omega (arith, ints, less)

pub one_person_more : (problem : Problem) (base k p : ℕ) (least floor : ℤ)
    → IsFloorAmong problem base k p least → IsFloorOf problem base k p least floor
    → IsFloorAmong problem base (k + 1) p floor
one_person_more problem base k p least floor among is =
    let most = is.at_most in
    record {
      unflown = λ pairing there. let u = among.unflown pairing there in omega (arith, ints, u, most);
      flown = λ j below own legal. elim (cases_eq j k) [
        | inl same ↦ subst (λ i. floor ≤ℤ units_of problem i p) (sym same) (is.flown (subst (λ i. only base (base_of_person problem i) ≡ true) same own) (subst (λ i. IsLegal problem i (p ∷ [])) same legal))
        | inr other ↦ let f = among.flown j (omega arith) own legal in omega (arith, ints, f, most)
      ];
      within = elim is.from [
        | inl same ↦ subst (IsWithin MOST_UNITS) (sym same) among.within
        | inr within ↦ within
      ];
    }

pub is_bound : (problem : Problem) (base p : ℕ) (bound : ℤ) → p ≡ 0
    → EachHomeRoster problem (only base) (λ places.
    bound ≤ℤ (cost_behind problem p places +ℤ missed_targets problem places))
    → IsHomeBound problem (only base) bound
unfolding cost_of
is_bound problem base p bound first below places roster home =
    let here : bound ≤ℤ (cost_behind problem 0 places +ℤ missed_targets problem places) =
    subst (λ q. bound ≤ℤ (cost_behind problem q places +ℤ missed_targets problem places)) first
    (below places roster home) in
    omega (arith, ints, here)

-- ---- missed targets

-- what the first persons miss of their targets
abbrev pub missed_until : Problem → List ℕ → ℕ → ℕ
missed_until problem places n = sum_by (λ k. missed_target problem k (set_of k places)) (range_with_len 0 n)

pub one_misses_more : (problem : Problem) (places : List ℕ) (k : ℕ) (missed more sum : ℤ)
    → missed ≤ℤ pos (missed_until problem places k) → more ≤ℤ pos (missed_target problem k (set_of k places))
    → sum ≤ℤ (missed +ℤ more)
    → sum ≤ℤ pos (missed_until problem places (k + 1))
one_misses_more problem places k missed more sum before here less =
    let f : ℕ → ℕ = λ i. missed_target problem i (set_of i places) in
    let next : k + 1 ≡ suc k = omega arith in
    let all : missed_until problem places (k + 1) ≡ missed_until problem places k + f k =
    ap (λ n. sum_by f (range_with_len 0 n)) next ∙ sum_by-range_more f 0 k k (omega arith) in
    omega (arith, ints, before, here, less, all)

pub all_miss : (problem : Problem) (places : List ℕ) (missed : ℤ)
    → missed ≤ℤ pos (missed_until problem places (length problem.persons))
    → missed ≤ℤ missed_targets problem places
all_miss problem places missed less =
    let sum =
    total-pos (λ k. missed_target problem k (set_of k places))
    (range_with_len 0 (length problem.persons)) in
    omega (arith, ints, less, sum)
