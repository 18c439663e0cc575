-- How a search over paths goes on: what a path begins with, and what may stand behind.
use Rattle.std.proofs.Common.{◌≡◌, ℕ, suc, ◌+◌, ◌-◌, ◌*◌, ◌<◌, ◌≤◌, true, false, ◌||◌, ◌&&◌, eqb, List, [], ◌∷◌, ◌++◌, length, get_or, Option, Some, None, refl, sym, ap, ◌∙◌, subst, inl, inr, arith, ℤ, pos, ◌+ℤ◌, ◌≤ℤ◌}
use Rattle.std.specs.Prelude.{slice_index, All}
use Rattle.std.specs.List.{sum_by}
use Rattle.std.proofs.Math.Nat.{mul-add, mul-le-mul_left, mul-le-mul_right}
use Rattle.std.proofs.lemmas.Bool.{and_from, and_parts, both_ways, cases_lt, eqb-true, or_cases, or_right}
use Rattle.std.proofs.lemmas.Int.{ints}
use Rattle.std.proofs.lemmas.List.{append_assoc, append-nil}
use Rattle.std.proofs.lemmas.List.Sums.{sum_by-append, sum_by-cons}
use Rattle.std.proofs.lemmas.Option.{get_or_from_slice_get, none-some, same_Some, slice_get-get_or}
use Rattle.roster_model.specs.declared.limits.TheConstants.{MOST_PAIRINGS, MOST_WEIGHT}
use Rattle.roster_model.specs.Costs.{distance, flight_of, total}
use Rattle.roster_model.specs.Problem.{Problem, target_of, weight_of}
use Rattle.roster_model.specs.Rules.{is_among, IsLegal}
use Rattle.roster_model.proofs.CostLemmas.{total-append, total-cons, total-nil}
use Rattle.roster_model.proofs.SetLemmas.{All-is_among, All-from_is_among, is_among-here}
use Rattle.roster_problem.specs.Duties.{AreTimed, IsInOrder}
use Rattle.roster_lines_table.proofs.Fronts.{among_behind, among_front}
use Rattle.roster_lines.specs.Listing.{ArePartsLegal}
use Rattle.roster_lines.proofs.Listed.{among_single}
use Rattle.roster_cost.specs.Amounts.{minutes_of_pairing, IsWithin}
use Rattle.roster_plan_bound.specs.declared.parts.TheConstants.{MOST_CHAIN_VALUE, MOST_FLIGHT, MOST_LOAD, PARTS}
use Rattle.roster_plan_bound.specs.declared.seek.End.{End}
use Rattle.roster_plan_bound.specs.declared.seek.Spot.{Spot}
use Rattle.roster_plan_bound.specs.Chains.{value_at}
use Rattle.roster_plan_bound.specs.Prospects.{term_of, IsAhead, IsLeastPath, Outlook}
use Rattle.roster_plan_bound.specs.Ranked.{IsRanked}
use Rattle.roster_plan_bound.specs.Seeks.{gain, EndsAt, IsClassWith, IsEndWith, IsLeastBelow, IsLeastFrom, IsLeastWith, IsNeedWith, IsNextSpot, IsOnward, IsSpot, IsStart, LeadsTo}
use Rattle.roster_plan_bound.specs.Spans.{IsBegun}
use Rattle.roster_plan_bound.specs.Timelines.{begin_of, class_of, flight_along, later_than, load_along, low_of, rank_of, IsOwed, IsPath, IsTimeline}
use Rattle.roster_plan_bound.proofs.LoadLemmas.{among-middle, among-with}
use Rattle.roster_plan_bound.proofs.RankedLemmas.{ranked-above, ranked-rest}

-- ---- lists

ranked-behind : (rank : ℕ → ℕ) (before : List ℕ) (q : ℕ) (rest : List ℕ) → IsRanked rank (before ++ q ∷ rest)
    → All (λ r. rank q < rank r) rest
ranked-behind rank [] q rest ranked = ranked-above rank q rest ranked
ranked-behind rank (b ∷ before) q rest ranked =
    ranked-behind rank before q rest (ranked-rest rank b (before ++ q ∷ rest) ranked)

same_first : (p q : ℕ) (xs ys : List ℕ) → p ∷ xs ≡ q ∷ ys → p ≡ q
same_first p q xs ys same = ap (λ zs. get_or zs 0 p) same

-- what stands at a place that is there, whatever would be taken elsewhere
pub index-any : {A : Type 0} (xs : List A) (i : ℕ) (a d : A) → a ≡ get_or xs i a → i < length xs
    → a ≡ get_or xs i d
index-any xs i a d is inside = is ∙ sym (get_or_from_slice_get xs i (get_or xs i a) d (slice_get-get_or xs i a inside))

-- ---- what flight costs is within what the weight allows

nearer : (a more target : ℕ) → distance (a + more) target ≤ distance a target + more
nearer a more target = omega arith

further : (a more target : ℕ) → distance a target ≤ distance (a + more) target + more
further a more target = omega arith

abbrev pub most_term : ℕ
most_term = PARTS * (MOST_WEIGHT * (MOST_PAIRINGS * MOST_FLIGHT))

pub term-within : (problem : Problem) (k flight : ℕ) → weight_of problem ≤ MOST_WEIGHT
    → flight ≤ MOST_PAIRINGS * MOST_FLIGHT → IsWithin most_term (term_of problem k flight)
term-within problem k flight light few =
    let weight : ℕ = weight_of problem in
    let fixed : ℕ = flight_of problem k [] in
    let target : ℕ = target_of problem k in
    let up = mul-le-mul_left weight (nearer fixed flight target) in
    let down = mul-le-mul_left weight (further fixed flight target) in
    let up_parts = mul-add weight (distance fixed target) flight in
    let down_parts = mul-add weight (distance (fixed + flight) target) flight in
    let most : weight * flight ≤ weight * (MOST_PAIRINGS * MOST_FLIGHT) = mul-le-mul_left weight few in
    let least : weight * (MOST_PAIRINGS * MOST_FLIGHT) ≤ MOST_WEIGHT * (MOST_PAIRINGS * MOST_FLIGHT) =
    mul-le-mul_right (MOST_PAIRINGS * MOST_FLIGHT) light in
    (omega (arith, ints, up, down, up_parts, down_parts, most, least), omega (arith, ints, up, down, up_parts, down_parts, most, least))

-- ---- laws

-- what is part of a legal set is legal
abbrev pub PartsLaw : Type 0
PartsLaw =
    (problem : Problem) (k : ℕ) (set part : List ℕ) → IsInOrder problem.duties → AreTimed problem.duties
    → ((p : ℕ) → is_among part p ≡ true → is_among set p ≡ true) → IsLegal problem k set → IsLegal problem k part

pub parts-of : (law : PartsLaw) (found problem : Problem) (k : ℕ) → found ≡ problem → IsInOrder found.duties
    → AreTimed found.duties → ArePartsLegal problem k
parts-of law found problem k same ordered timed =
    subst (λ p. ArePartsLegal p k) same (λ set part within legal. law found k set part ordered timed within legal)

module _ (outlook : Outlook) where
  abbrev Legal : List ℕ → Type 0
  Legal set = IsLegal outlook.problem outlook.person set

  -- ---- the path of a spot itself

  pub gain-here : (spot : Spot) (before rest : List ℕ) → IsStart outlook spot before rest
      → ((q : ℕ) (behind : List ℕ) → rest ≡ q ∷ behind → q < 0)
      → gain outlook (before ++ rest)
      ≡ spot.end.value +ℤ term_of outlook.problem outlook.person spot.end.flight
  gain-here spot before [] start none =
      ap (gain outlook) (append-nil before)
      ∙ ap (λ z. z +ℤ term_of outlook.problem outlook.person (flight_along outlook.problem outlook.person before)) (sym start.value)
      ∙ ap (λ n. spot.end.value +ℤ term_of outlook.problem outlook.person n) (sym start.flight)
  gain-here spot before (q ∷ rest) start none = absurd (let less : q < 0 = none q rest refl in omega arith)

  -- ---- pairings behind, one after another

  pub below-next : (spot : Spot) (from q : ℕ) (least new : ℤ) → IsLeastBelow outlook spot from least
      → ((r : ℕ) → from ≤ r → r < q → is_among spot.may r ≡ false) → new ≤ℤ least
      → IsLeastWith outlook spot q new → IsLeastBelow outlook spot (q + 1) new
  below-next spot from q least new below none less here before [] start first =
      let old = below before [] start (λ r behind is. let long : 0 ≡ suc (length behind) = ap length is in omega (arith, long)) in
      omega (arith, ints, old, less)
  below-next spot from q least new below none less here before (r ∷ behind) start first =
      let up_to : r < q + 1 = first r behind refl in
      let may : is_among spot.may r ≡ true = start.may r (is_among-here r behind) in
      elim (cases_lt r from) [
        | inl l ↦
            let old = below before (r ∷ behind) start (λ s rest is. let same : r ≡ s = same_first r s behind rest is in omega (arith, l, same)) in
            omega (arith, ints, old, less)
        | inr above ↦ elim (cases_lt r q) [
          | inl l ↦ absurd (both_ways (is_among spot.may r) (none r above l) may)
          | inr m ↦
              let same : r ≡ q = omega (arith, m, up_to) in
              subst (λ s. new ≤ℤ gain outlook (before ++ s ∷ behind)) (sym same)
              (here before behind (subst (λ s. IsStart outlook spot before (s ∷ behind)) same start))
        ]
      ]

  pub below-all : (spot : Spot) (from : ℕ) (least : ℤ) → IsLeastBelow outlook spot from least
      → ((r : ℕ) → from ≤ r → is_among spot.may r ≡ false) → IsLeastFrom outlook spot least
  below-all spot from least below none before rest start =
      below before rest start (λ r behind is.
      let there : is_among rest r ≡ true = subst (λ xs. is_among xs r ≡ true) (sym is) (is_among-here r behind) in
      elim (cases_lt r from) [
        | inl l ↦ l
        | inr above ↦ absurd (both_ways (is_among spot.may r) (none r above) (start.may r there))
      ])

  -- what was found of a pairing
  pub next-there : (spot : Spot) (q : ℕ) (least : ℤ) (found : Option Spot) (next : Spot) → found ≡ Some next
      → IsOnward outlook spot q least found → IsNextSpot outlook spot q next
  next-there spot q least found next is onward = subst (IsOnward outlook spot q least) is onward

  pub none-there : (spot : Spot) (q : ℕ) (least : ℤ) (found : Option Spot) → found ≡ None
      → IsOnward outlook spot q least found → IsLeastWith outlook spot q least
  none-there spot q least found is onward = subst (IsOnward outlook spot q least) is onward

  pub with-next : (spot : Spot) (q : ℕ) (next : Spot) (least : ℤ) → IsNextSpot outlook spot q next
      → IsLeastFrom outlook next least → IsLeastWith outlook spot q least
  with-next spot q next least is all before rest start =
      subst (λ path. least ≤ℤ gain outlook path) (append_assoc before (q ∷ []) rest)
      (all (before ++ q ∷ []) rest (is.leads before rest start))

  -- ---- with a pairing behind

  value-with : (spot : Spot) (q : ℕ) (end : End) (before : List ℕ) → IsEndWith outlook spot q end
      → spot.end.value ≡ total (value_at outlook.units) before
      → end.value ≡ total (value_at outlook.units) (before ++ q ∷ [])
  value-with spot q end before is was =
      let value = is.value in
      let none = total-nil (value_at outlook.units) in
      let one = total-cons (value_at outlook.units) q [] in
      let all = total-append (value_at outlook.units) before (q ∷ []) in
      omega (arith, ints, value, was, none, one, all)

  flight-with : (spot : Spot) (q : ℕ) (end : End) (before : List ℕ) → IsEndWith outlook spot q end
      → spot.end.flight ≡ flight_along outlook.problem outlook.person before
      → end.flight ≡ flight_along outlook.problem outlook.person (before ++ q ∷ [])
  flight-with spot q end before is was =
      let flight = is.flight in
      let flown : List ℕ → ℕ = sum_by (minutes_of_pairing outlook.problem outlook.person) in
      let none : flown [] ≡ 0 = refl in
      let one = sum_by-cons (minutes_of_pairing outlook.problem outlook.person) q [] in
      let all = sum_by-append (minutes_of_pairing outlook.problem outlook.person) before (q ∷ []) in
      omega (arith, flight, was, none, one, all)

  load-with : (spot : Spot) (q : ℕ) (end : End) (before : List ℕ) → IsEndWith outlook spot q end
      → spot.end.load ≡ load_along outlook.timeline before
      → end.load ≡ load_along outlook.timeline (before ++ q ∷ [])
  load-with spot q end before is was =
      let load = is.load in
      let taken : ℕ → ℕ = slice_index outlook.timeline.loads.items in
      let one = sum_by-cons taken q [] in
      let all = sum_by-append taken before (q ∷ []) in
      omega (arith, load, was, one, all)

  pub load-within : (spot : Spot) (q : ℕ) (end : End) → IsSpot outlook spot → 0 < spot.room
      → IsEndWith outlook spot q end → end.load ≤ (MOST_PAIRINGS - (spot.room - 1)) * MOST_LOAD
  load-within spot q end is room ended =
      let whole = is.room in
      let was = is.load in
      let load = ended.load in
      let light = ended.light in
      omega (arith, room, whole, was, load, light)

  pub value-within : (spot : Spot) (q : ℕ) (end : End) → IsSpot outlook spot → 0 < spot.room
      → IsEndWith outlook spot q end → IsWithin ((MOST_PAIRINGS - (spot.room - 1)) * MOST_CHAIN_VALUE) end.value
  value-within spot q end is room ended =
      let whole = is.room in
      let value = ended.value in
      let low = is.value.0 in
      let high = is.value.1 in
      let low_unit = ended.small.0 in
      let high_unit = ended.small.1 in
      (omega (arith, ints, room, whole, value, low, low_unit), omega (arith, ints, room, whole, value, high, high_unit))

  pub flight-within : (spot : Spot) (q : ℕ) (end : End) → IsSpot outlook spot → 0 < spot.room
      → IsEndWith outlook spot q end → end.flight ≤ (MOST_PAIRINGS - (spot.room - 1)) * MOST_FLIGHT
  flight-within spot q end is room ended =
      let whole = is.room in
      let was = is.flight in
      let flight = ended.flight in
      let few = ended.few in
      omega (arith, room, whole, was, flight, few)

  module _ (timed : IsTimeline outlook.problem outlook.person outlook.timeline) where
    begun-with : (spot : Spot) (class q : ℕ) (before rest : List ℕ) → IsStart outlook spot before (q ∷ rest)
        → IsClassWith outlook.timeline spot q class
        → (IsBegun outlook.problem outlook.person (before ++ q ∷ rest) q (begin_of outlook.timeline class)) × (class ≤ class_of outlook.timeline q)
    begun-with spot class q before rest start with =
        let path : List ℕ = before ++ q ∷ rest in
        let here : is_among path q ≡ true = among-middle before q rest in
        let inside : q < length outlook.problem.pairings =
        All-is_among (λ p. p < length outlook.problem.pairings) path q start.path.places here in
        elim with [
          | inl old ↦
              let ends = start.ends old.0 old.1 in
              let before_it : is_among before old.0 ≡ true = subst (λ xs. is_among xs old.0 ≡ true) (sym ends.is) (among-middle ends.front old.0 []) in
              let there : is_among path old.0 ≡ true = among_front before (q ∷ rest) old.0 before_it in
              let last_inside : old.0 < length outlook.problem.pairings =
              All-is_among (λ p. p < length outlook.problem.pairings) path old.0 start.path.places there in
              let begun =
              timed.same path old.0 q (begin_of outlook.timeline spot.end.class) start.path.legal last_inside
              inside there here old.2 ends.begun in
              let rises = timed.rising old.0 q last_inside old.2 in
              let early = ends.early in
              let same : class ≡ spot.end.class = old.3 in
              (subst (λ c. IsBegun outlook.problem outlook.person path q (begin_of outlook.timeline c)) (sym same) begun, omega (arith, same, early, rises))
          | inr own ↦
              let same : class ≡ class_of outlook.timeline q = own in
              let begun = timed.own path q start.path.legal inside here in
              (subst (λ c. IsBegun outlook.problem outlook.person path q (begin_of outlook.timeline c)) (sym same) begun, omega (arith, same))
        ]

    owed-with : (spot : Spot) (need q : ℕ) (before rest : List ℕ) → IsStart outlook spot before (q ∷ rest)
        → IsNeedWith outlook.timeline spot q need
        → IsOwed outlook.problem outlook.person outlook.timeline (before ++ q ∷ rest) q need
    owed-with spot need q before rest start with =
        let path : List ℕ = before ++ q ∷ rest in
        let here : is_among path q ≡ true = among-middle before q rest in
        let inside : q < length outlook.problem.pairings =
        All-is_among (λ p. p < length outlook.problem.pairings) path q start.path.places here in
        elim with [
          | inl old ↦
              let ends = start.ends old.0 old.1 in
              let before_it : is_among before old.0 ≡ true = subst (λ xs. is_among xs old.0 ≡ true) (sym ends.is) (among-middle ends.front old.0 []) in
              let there : is_among path old.0 ≡ true = among_front before (q ∷ rest) old.0 before_it in
              let last_inside : old.0 < length outlook.problem.pairings =
              All-is_among (λ p. p < length outlook.problem.pairings) path old.0 start.path.places there in
              let owed = timed.need_behind path old.0 q spot.end.need start.path.legal last_inside inside there here ends.owed in
              subst (IsOwed outlook.problem outlook.person outlook.timeline path q) (sym old.2) owed
          | inr first ↦
              subst (IsOwed outlook.problem outlook.person outlook.timeline path q) (sym first)
              (timed.need_first path q start.path.legal inside here)
        ]

    -- the spot with a pairing behind, at that end, and its set and what may stand behind
    abbrev spot-behind : Spot → ℕ → End → List ℕ → List ℕ → Spot
    spot-behind spot q end set may = record { set = set; last = Some q; end = end; may = may; room = spot.room - 1 }

    -- what it is made of
    record IsBehindSpot (spot : Spot) (q : ℕ) (end : End) (set may : List ℕ) : Type 0 where
      ended : IsEndWith outlook spot q end
      members : (p : ℕ) → is_among set p ≡ (is_among spot.set p || eqb q p)
      behind : (p : ℕ) → is_among may p ≡ (is_among spot.may p && is_among (later_than outlook.timeline q) p)

    leads-to : (spot : Spot) (q : ℕ) (end : End) (set may : List ℕ) → IsBehindSpot spot q end set may
        → LeadsTo outlook spot q (spot-behind spot q end set may)
    leads-to spot q end set may is before rest start =
        let path : List ℕ = before ++ q ∷ rest in
        let joined : before ++ q ∷ [] ++ rest ≡ path = append_assoc before (q ∷ []) rest in
        let here : is_among path q ≡ true = among-middle before q rest in
        let inside : q < length outlook.problem.pairings =
        All-is_among (λ p. p < length outlook.problem.pairings) path q start.path.places here in
        let ending = begun-with spot end.class q before rest start is.ended.class in
        let owed = owed-with spot end.need q before rest start is.ended.need in
        record {
          path = subst (IsPath outlook.problem outlook.person outlook.timeline) (sym joined) start.path;
          members = λ p.
              among-with before q p ∙ ap (λ b. b || eqb q p) (start.members p) ∙ sym (is.members p);
          ends = λ last same.
              subst (EndsAt outlook end.class end.need (before ++ q ∷ []) rest) (same_Some q last same)
              (record {
                front = before;
                is = refl;
                begun = subst (λ xs. IsBegun outlook.problem outlook.person xs q (begin_of outlook.timeline end.class)) (sym joined) ending.0;
                early = ending.1;
                owed = subst (λ xs. IsOwed outlook.problem outlook.person outlook.timeline xs q end.need) (sym joined) owed;
              });
          value = value-with spot q end before is.ended start.value;
          flight = flight-with spot q end before is.ended start.flight;
          load = load-with spot q end before is.ended start.load;
          may = λ p h.
              let there : is_among path p ≡ true = among_behind before (q ∷ rest) p (or_right (eqb q p) (is_among rest p) h) in
              is.behind p
              ∙ and_from (is_among spot.may p) (is_among (later_than outlook.timeline q) p)
              (start.may p (or_right (eqb q p) (is_among rest p) h))
              (timed.later path q p start.path.legal inside (All-is_among (λ r. r < length outlook.problem.pairings) path p start.path.places there) here there (All-is_among (λ r. rank_of outlook.timeline q < rank_of outlook.timeline r) rest p (ranked-behind (rank_of outlook.timeline) before q rest start.path.ranked) h));
        }

    -- the next spot
    pub next-spot : (spot : Spot) (q : ℕ) (end : End) (set may : List ℕ) → IsSpot outlook spot → 0 < spot.room
        → is_among spot.may q ≡ true → IsEndWith outlook spot q end
        → ((p : ℕ) → is_among set p ≡ (is_among spot.set p || eqb q p))
        → ((p : ℕ) → is_among may p ≡ (is_among spot.may p && is_among (later_than outlook.timeline q) p))
        → IsNextSpot outlook spot q (spot-behind spot q end set may)
    next-spot spot q end set may is room there ended members behind =
        let inside : q < length outlook.problem.pairings = is.may q there in
        let whole = is.room in
        record {
          is = record {
            last = λ p same. subst (λ r. r < length outlook.problem.pairings) (same_Some q p same) inside;
            set = All-from_is_among (λ p. p < length outlook.problem.pairings) set (λ p h. elim (or_cases (is_among spot.set p) (eqb q p) (sym (members p) ∙ h)) [
              | inl old ↦ All-is_among (λ r. r < length outlook.problem.pairings) spot.set p is.set old
              | inr new ↦ subst (λ r. r < length outlook.problem.pairings) (eqb-true q p new) inside
            ]);
            may = λ p h. is.may p (and_parts (is_among spot.may p) (is_among (later_than outlook.timeline q) p) (sym (behind p) ∙ h)).0;
            room = omega (arith, whole);
            value = value-within spot q end is room ended;
            flight = flight-within spot q end is room ended;
            load = load-within spot q end is room ended;
          };
          last = refl;
          room = omega (arith, room);
          leads = leads-to spot q end set may (record { ended = ended; members = members; behind = behind });
        }

    -- ---- what is left out

    module _ (parts : ArePartsLegal outlook.problem outlook.person) where
      alone-there : (set : List ℕ) (q : ℕ) → IsLegal outlook.problem outlook.person set
          → q < length outlook.problem.pairings → is_among set q ≡ true
          → is_among outlook.timeline.alone q ≡ true
      alone-there set q legal inside here =
          (timed.alone q).1 (inside, parts set (q ∷ []) (λ p h. subst (λ r. is_among set r ≡ true) (among_single q p h) here) legal)

      -- each path begins with nothing
      pub least-of-all : (set may : List ℕ) (room : ℕ) (least : ℤ) → set ≡ [] → may ≡ outlook.timeline.alone
          → IsLeastFrom outlook (record { set = set; last = None; end = record { class = 0; value = pos 0; flight = 0; load = 0; need = 0 }; may = may; room = room }) least
          → IsLeastPath outlook.problem outlook.person outlook.timeline outlook.units least
      least-of-all set may room least empty alone all path is =
          all [] path (record {
            path = is;
            members = λ p. ap (λ xs. is_among xs p) (sym empty);
            ends = λ last none. absurd (none-some last none);
            value = sym (total-nil (value_at outlook.units));
            flight = refl;
            load = refl;
            may = λ p h. ap (λ xs. is_among xs p) alone
                ∙ alone-there path p is.legal (All-is_among (λ r. r < length outlook.problem.pairings) path p is.places h) h;
          })

      -- a class from which on the pairing doesn't end in time
      pub in-time : (spot : Spot) (q : ℕ) (end : End) → IsEndWith outlook spot q end
          → (before rest : List ℕ) → IsStart outlook spot before (q ∷ rest)
          → low_of outlook.timeline q ≤ end.class
      in-time spot q end is before rest start =
          let path : List ℕ = before ++ q ∷ rest in
          let here : is_among path q ≡ true = among-middle before q rest in
          let inside : q < length outlook.problem.pairings =
          All-is_among (λ p. p < length outlook.problem.pairings) path q start.path.places here in
          let ending = begun-with spot end.class q before rest start is.class in
          let early = ending.1 in
          let known = timed.class q (alone-there path q start.path.legal inside here) in
          timed.in_time path q end.class start.path.legal inside here (omega (arith, known, early)) ending.0

      -- a set that isn't legal
      pub legal-with : (spot : Spot) (q : ℕ) (next : Spot) → IsNextSpot outlook spot q next
          → (before rest : List ℕ) → IsStart outlook spot before (q ∷ rest)
          → IsLegal outlook.problem outlook.person next.set
      legal-with spot q next is before rest start =
          let led = is.leads before rest start in
          parts (before ++ q ∷ [] ++ rest) next.set
          (λ p h. among_front (before ++ q ∷ []) rest p (led.members p ∙ h)) led.path.legal

    -- what brings no less
    pub ahead-of : (spot : Spot) (q : ℕ) (end : End) (least ahead : ℤ) → IsEndWith outlook spot q end
        → IsAhead outlook.problem outlook.person outlook.timeline outlook.units end.value end.flight end.load q end.class end.need ahead
        → least ≤ℤ ahead → IsLeastWith outlook spot q least
    ahead-of spot q end least ahead is tells more before rest start =
        let ending = begun-with spot end.class q before rest start is.class in
        let owed = owed-with spot end.need q before rest start is.need in
        let told =
        tells before rest start.path ending.0 ending.1 owed (value-with spot q end before is start.value)
        (flight-with spot q end before is start.flight) (load-with spot q end before is start.load) in
        omega (arith, ints, told, more)
