-- A legal set with one pairing more: its duties, what they leave, and when it is legal.
use Rattle.std.proofs.Common.{◌≡◌, ℕ, ◌+◌, ◌-◌, ◌<◌, ◌≤◌, min, true, false, ◌||◌, eqb, List, [], ◌∷◌, ◌++◌, length, get_or, map, Option, Some, refl, sym, ap, ◌∙◌, subst, inl, inr, arith}
use Rattle.std.specs.Prelude.{All, filter, slice_get, slice_index, option_map, unwrap_or}
use Rattle.std.specs.List.Sorted.{IsStrictlyIncreasing}
use Rattle.std.proofs.Math.Bool.{or-false}
use Rattle.std.proofs.lemmas.Bool.{cases_lt, eqb-true, or_cases, or_right, both_ways, false≢true, false_from_ne_true}
use Rattle.std.proofs.lemmas.Bool.Decides.{nat_tests}
use Rattle.std.proofs.lemmas.List.{ext_get_or, get_or-map, get_or_past, length-map, length_push}
use Rattle.std.proofs.lemmas.List.Elements.{All-from_get_or, All-get_or}
use Rattle.roster_model.specs.declared.profile.TheConstants.{MOST_FLIGHT_IN_12_MONTHS, MOST_FLIGHT_IN_A_YEAR}
use Rattle.roster_model.specs.Calendar.{Days}
use Rattle.roster_model.specs.Problem.{Problem, home_of, year_of, eleven_of}
use Rattle.roster_model.specs.records.Crew.{Person}
use Rattle.roster_model.specs.records.Duty.{Duty, Holder, OfPairing, OfPerson, is_held_by_pairing}
use Rattle.roster_model.specs.Rules.{Rule, RecoveryRule, LimitRule, FlightYear, Flight12, Holds, IsLegal, duty_list, is_among, is_listed, rank_of}
use Rattle.roster_model.proofs.SetLemmas.{Ascends-from_rising, Ascends-push, rising_from_Ascends, All-is_among, is_among-append, is_among-here}
use Rattle.roster_problem.specs.Duties.{AreTimed, IsInOrder, is_of_pairing, passes_at, picked}
use Rattle.roster_problem.proofs.PositionLists.{picked-passing}
use Rattle.roster_cumulative.specs.Judged.{AreWithin, MonthFlight, Sum, judged_sums, load_of, most_load, most_of, room_of, sum_of}
use Rattle.roster_cumulative.proofs.JudgedSums.{most-few, sum_of-one_more, sums-by_limits}
use Rattle.roster_legal.specs.Stepping.{AreBusyDaysOf, AreDutiesOf, AreRoomsOf, IsLoadOf, IsNext, IsPlaced, IsStepped, Loaded, Stepped}
use Rattle.roster_legal.proofs.Gathered.{either, is_of, neither, positions_within}
use Rattle.roster_legal.proofs.Pairwise.{holds_of, pairs-decide}
use Rattle.roster_legal.proofs.Parts.{IsLegal-part}

-- what is judged from Recovery on says so of person k with the set
abbrev pub HoldLater : Problem → ℕ → List ℕ → Type 0
HoldLater problem k set = (rule : Rule) → rank_of RecoveryRule ≤ rank_of rule → Holds problem k set rule

-- ---- what contracts see of a judged set

-- what its type keeps holds of what is seen,
pub known_of : {shown judged : Stepped} {depth : ℕ} {positions rooms : List ℕ} {busy : ℕ} → shown ≡ judged
    → IsStepped shown.loads shown.set depth positions rooms busy
    → IsStepped judged.loads judged.set depth positions rooms busy
known_of {depth = depth} {positions = positions} {rooms = rooms} {busy = busy} same known =
    subst (λ (j : Stepped). IsStepped j.loads j.set depth positions rooms busy) same known

-- so does what a pairing takes,
pub load_of_view : {shown loaded : Loaded} {minutes : List ℕ} (p : ℕ) → shown ≡ loaded
    → (is_among shown.among p ≡ true → IsLoadOf shown.problem shown.person p minutes)
    → is_among loaded.among p ≡ true → IsLoadOf loaded.problem loaded.person p minutes
load_of_view {minutes = minutes} p same load =
    subst (λ (l : Loaded). is_among l.among p ≡ true → IsLoadOf l.problem l.person p minutes) same load

-- and so it is with the duties of a pairing
pub members_of : {shown problem : Problem} (p : ℕ) (more : List ℕ) → shown ≡ problem
    → ((i : ℕ) → is_among more i ≡ is_of p shown.duties i)
    → (i : ℕ) → is_among more i ≡ is_of p problem.duties i
members_of p more same members =
    subst (λ (m : Problem). (i : ℕ) → is_among more i ≡ is_of p m.duties i) same members

-- ---- the duties

same_either_way : (p q : ℕ) → (eqb p q || false) ≡ eqb q p
same_either_way p q = grind (arith, nat_tests)

pub listed-next : (k p : ℕ) (set : List ℕ) (holder : Holder)
    → is_listed k (set ++ p ∷ []) holder ≡ (is_listed k set holder || is_held_by_pairing p holder)
listed-next k p set (OfPairing q) =
    is_among-append set (p ∷ []) q ∙ ap (λ b. is_among set q || b) (same_either_way p q)
listed-next k p set (OfPerson j) = sym (or-false (eqb j k))

not_held : (k p : ℕ) (set : List ℕ) (holder : Holder) → is_among set p ≡ false → is_listed k set holder ≡ true
    → is_held_by_pairing p holder ≡ false
not_held k p set (OfPairing q) new listed =
    false_from_ne_true (eqb q p)
    (λ held. both_ways (is_among set p) new (subst (λ r. is_among set r ≡ true) (eqb-true q p held) listed))
not_held k p set (OfPerson j) new listed = refl

pub new_behind : (p : ℕ) (set : List ℕ) → All (λ q. q < p) set → is_among set p ≡ false
new_behind p set before =
    false_from_ne_true _ (λ h. let here : p < p = All-is_among (λ q. q < p) set p before h in omega arith)

pub duties_apart : (problem : Problem) (k p : ℕ) (set old more : List ℕ) → AreDutiesOf problem k set old
    → is_among set p ≡ false → ((i : ℕ) → is_among more i ≡ is_of p problem.duties i) → (i : ℕ)
    → is_among old i ≡ true → is_among more i ≡ false
duties_apart problem k p set old more are new members i h =
    members i ∙ neither (λ duty. is_listed k set duty.holder) (λ duty. is_held_by_pairing p duty.holder) (λ duty. not_held k p set duty.holder new) (slice_get problem.duties i) (sym (are.members i) ∙ h)

pub duties_with : (problem : Problem) (k p : ℕ) (set old more all : List ℕ) → AreDutiesOf problem k set old
    → ((i : ℕ) → is_among more i ≡ is_of p problem.duties i) → IsStrictlyIncreasing all
    → ((i : ℕ) → is_among all i ≡ (is_among old i || is_among more i))
    → AreDutiesOf problem k (set ++ p ∷ []) all
duties_with problem k p set old more all are members rising both = record {
  rising = rising;
  members = λ i.
      both i ∙ ap (λ b. b || is_among more i) (are.members i)
      ∙ ap (λ b. passes_at (λ duty. is_listed k set duty.holder) problem.duties i || b) (members i)
      ∙ sym (either (λ duty. is_listed k set duty.holder) (λ duty. is_held_by_pairing p duty.holder) (λ duty. is_listed k (set ++ p ∷ []) duty.holder) (λ duty. listed-next k p set duty.holder) (slice_get problem.duties i));
}

pub duties-within : (problem : Problem) (k : ℕ) (set positions : List ℕ) → AreDutiesOf problem k set positions
    → All (λ i. i < length problem.duties) positions
duties-within problem k set positions are =
    positions_within (λ duty. is_listed k set duty.holder) positions problem.duties are.members

pub duties-picked : (problem : Problem) (k : ℕ) (set positions : List ℕ) → AreDutiesOf problem k set positions
    → picked problem.duties positions ≡ duty_list problem k set
duties-picked problem k set positions are =
    picked-passing (λ duty. is_listed k set duty.holder) problem.duties positions are.rising are.members

-- ---- which parts are legal

among_one : (p q : ℕ) → is_among (p ∷ []) q ≡ true → p ≡ q
among_one p q h =
    elim (or_cases _ _ h) [ inl same ↦ eqb-true p q same | inr none ↦ absurd (false≢true none) ]

module _ (stepped : Stepped) (p : ℕ) (ordered : IsInOrder stepped.loads.problem.duties)
    (timed : AreTimed stepped.loads.problem.duties)
    (legal : IsLegal stepped.loads.problem stepped.loads.person stepped.set) (next : IsNext stepped p) where
  abbrev problem : Problem
  problem = stepped.loads.problem

  abbrev k : ℕ
  k = stepped.loads.person

  abbrev set : List ℕ
  set = stepped.set

  part_of_set : (q r : ℕ) → is_among set q ≡ true → is_among set r ≡ true → (s : ℕ)
      → is_among (q ∷ r ∷ []) s ≡ true → is_among set s ≡ true
  part_of_set q r first second s h =
      elim (or_cases _ _ h) [
        | inl same ↦ subst (λ t. is_among set t ≡ true) (eqb-true q s same) first
        | inr other ↦ subst (λ t. is_among set t ≡ true) (among_one r s other) second
      ]

  alone_next : (q : ℕ) → is_among (set ++ p ∷ []) q ≡ true → IsLegal problem k (q ∷ [])
  alone_next q h =
      elim (or_cases _ _ (sym (is_among-append set (p ∷ []) q) ∙ h)) [
        | inl old ↦ IsLegal-part problem k set (q ∷ []) ordered timed (λ s is. subst (λ t. is_among set t ≡ true) (among_one q s is) old) legal
        | inr new ↦ subst (λ r. IsLegal problem k (r ∷ [])) (among_one p q new) next.single
      ]

  pairs_next : (q r : ℕ) → q < r → is_among (set ++ p ∷ []) q ≡ true → is_among (set ++ p ∷ []) r ≡ true
      → IsLegal problem k (q ∷ r ∷ [])
  pairs_next q r order first second =
      elim (or_cases _ _ (sym (is_among-append set (p ∷ []) r) ∙ second)) [
        | inl old ↦ elim (or_cases _ _ (sym (is_among-append set (p ∷ []) q) ∙ first)) [
          | inl older ↦ IsLegal-part problem k set (q ∷ r ∷ []) ordered timed (part_of_set q r older old) legal
          | inr new ↦
              let same : p ≡ q = among_one p q new in
              let before : r < p = All-is_among (λ s. s < p) set r next.behind old in
              absurd (omega arith)
        ]
        | inr new ↦
            let same : p ≡ r = among_one p r new in
            elim (or_cases _ _ (sym (is_among-append set (p ∷ []) q) ∙ first)) [
              | inl older ↦ subst (λ s. IsLegal problem k (q ∷ s ∷ [])) same (next.pairs q older)
              | inr newer ↦ let also : p ≡ q = among_one p q newer in absurd (omega arith)
            ]
      ]

  has_next : is_among (set ++ p ∷ []) p ≡ true
  has_next = is_among-append set (p ∷ []) p ∙ or_right _ _ (is_among-here p [])

  -- what each rule says of a legal set with something behind
  pub next-holds : (front : List ℕ) → IsLegal problem k (front ++ p ∷ []) → (rule : Rule)
      → Holds problem k (front ++ p ∷ []) rule
  next-holds [] is rule = holds_of problem k p [] is rule
  next-holds (q ∷ front) is rule = holds_of problem k q (front ++ p ∷ []) is rule

  by_rule : HoldLater problem k (set ++ p ∷ []) → (rule : Rule) → Holds problem k (set ++ p ∷ []) rule
  by_rule later rule =
      elim (cases_lt (rank_of rule) (rank_of RecoveryRule)) [
        | inl early ↦ pairs-decide problem k (set ++ p ∷ []) p has_next alone_next pairs_next rule early
        | inr late ↦ later rule late
      ]

  -- what was flown before the month is not too much, since the pairing is legal alone
  pub before : (year_of problem k ≤ MOST_FLIGHT_IN_A_YEAR) × (eleven_of problem k ≤ MOST_FLIGHT_IN_12_MONTHS)
  before =
      let in_year = holds_of problem k p [] next.single (LimitRule FlightYear) in
      let in_twelve = holds_of problem k p [] next.single (LimitRule Flight12) in
      (omega arith, omega arith)

  few_are_legal : (front : List ℕ) → front ≡ set → length front < 2 → IsLegal problem k (set ++ p ∷ [])
  few_are_legal [] is few = subst (λ s. IsLegal problem k (s ++ p ∷ [])) is next.single
  few_are_legal (q ∷ []) is few =
      subst (λ s. IsLegal problem k (s ++ p ∷ [])) is
      (next.pairs q (subst (λ s. is_among s q ≡ true) is (is_among-here q [])))
  few_are_legal (q ∷ r ∷ front) is few = absurd (omega arith)

  -- it is legal where it is a pair or less, or keeps what is judged from Recovery on
  pub next-legal : (2 ≤ length set → HoldLater problem k (set ++ p ∷ [])) → IsLegal problem k (set ++ p ∷ [])
  next-legal later =
      elim (cases_lt (length set) 2) [
        | inl few ↦ few_are_legal set refl few
        | inr many ↦ inr (by_rule (later many))
      ]

  some_hold : (set : List ℕ) → 2 ≤ length set → IsLegal problem k set → (rule : Rule)
      → Holds problem k set rule
  some_hold [] many is rule = absurd (omega arith)
  some_hold (q ∷ rest) many is rule = holds_of problem k q rest is rule

  -- ---- the sums

  abbrev days : Days
  days = (home_of problem k).days

  abbrev sums : List Sum
  sums = judged_sums days

  rooms_at : (list : List Duty) (j : ℕ) → j < length sums → get_or (map (room_of days list (year_of problem k) (eleven_of problem k)) sums) j 0 ≡ room_of days list (year_of problem k) (eleven_of problem k) (get_or sums j MonthFlight)
  rooms_at list j inside =
      get_or-map (room_of days list (year_of problem k) (eleven_of problem k)) sums j MonthFlight 0 inside

  abbrev brought : List Duty
  brought = filter (is_of_pairing p) problem.duties

  loads_at : (j : ℕ) → j < length sums
      → get_or (map (load_of days brought) sums) j 0 ≡ load_of days brought (get_or sums j MonthFlight)
  loads_at j inside = get_or-map (load_of days brought) sums j MonthFlight 0 inside

  more : (sum : Sum) → sum_of days (duty_list problem k (set ++ p ∷ [])) sum ≡ sum_of days (duty_list problem k set) sum + sum_of days brought sum
  more sum = sum_of-one_more problem days k p set sum (new_behind p set next.behind)

  one_left : (most before brings after : ℕ) → most ≤ MOST_FLIGHT_IN_12_MONTHS → after ≡ before + brings
      → most - before - min most_load brings ≡ most - after
  one_left most before brings after few is = omega arith

  -- what the pairing leaves
  pub rooms-next : (rooms loads left : List ℕ) → AreRoomsOf problem k set rooms
      → loads ≡ map (load_of days brought) sums → length left ≡ length rooms
      → ((j : ℕ) → slice_index left j ≡ slice_index rooms j - slice_index loads j)
      → AreRoomsOf problem k (set ++ p ∷ []) left
  rooms-next rooms loads left are is long each =
      let room = room_of days (duty_list problem k set) (year_of problem k) (eleven_of problem k) in
      let after =
      room_of days (duty_list problem k (set ++ p ∷ [])) (year_of problem k) (eleven_of problem k) in
      let lengths : length left ≡ length sums = long ∙ ap length are ∙ length-map sums room in
      ext_get_or 0 left (map after sums) (lengths ∙ sym (length-map sums after)) (λ j inside.
      let within : j < length sums = omega arith in
      let sum : Sum = get_or sums j MonthFlight in
      each j
      ∙ ap (λ r. get_or r j 0 - get_or loads j 0) are
      ∙ ap (λ l. get_or (map room sums) j 0 - get_or l j 0) is
      ∙ ap (λ n. n - get_or (map (load_of days brought) sums) j 0) (rooms_at (duty_list problem k set) j within)
      ∙ ap (λ n. room sum - n) (loads_at j within)
      ∙ one_left (most_of (year_of problem k) (eleven_of problem k) sum) (sum_of days (duty_list problem k set) sum) (sum_of days brought sum) (sum_of days (duty_list problem k (set ++ p ∷ [])) sum) (most-few (year_of problem k) (eleven_of problem k) sum) (more sum)
      ∙ sym (rooms_at (duty_list problem k (set ++ p ∷ [])) j within))

  enough : (most before brings after : ℕ) → most ≤ MOST_FLIGHT_IN_12_MONTHS → before ≤ most
      → after ≡ before + brings → min most_load brings ≤ most - before → after ≤ most
  enough most before brings after few kept is h = omega arith

  fits : (most before brings after : ℕ) → after ≡ before + brings → after ≤ most
      → min most_load brings ≤ most - before
  fits most before brings after is h = omega arith

  -- if it finds room, no sum is more than there may be,
  pub within-next : (rooms loads : List ℕ) → AreRoomsOf problem k set rooms
      → loads ≡ map (load_of days brought) sums
      → AreWithin days (duty_list problem k set) (year_of problem k) (eleven_of problem k)
      → ((j : ℕ) → slice_index loads j ≤ slice_index rooms j)
      → AreWithin days (duty_list problem k (set ++ p ∷ [])) (year_of problem k) (eleven_of problem k)
  within-next rooms loads are is kept have =
      All-from_get_or (λ sum. sum_of days (duty_list problem k (set ++ p ∷ [])) sum ≤ most_of (year_of problem k) (eleven_of problem k) sum) sums MonthFlight (λ j inside.
      let sum : Sum = get_or sums j MonthFlight in
      let load = ap (λ l. get_or l j 0) is ∙ loads_at j inside in
      let room = ap (λ r. get_or r j 0) are ∙ rooms_at (duty_list problem k set) j inside in
      let there = have j in
      let enough_room : load_of days brought sum ≤ room_of days (duty_list problem k set) (year_of problem k) (eleven_of problem k) sum = omega arith in
      enough (most_of (year_of problem k) (eleven_of problem k) sum) (sum_of days (duty_list problem k set) sum) (sum_of days brought sum) (sum_of days (duty_list problem k (set ++ p ∷ [])) sum) (most-few (year_of problem k) (eleven_of problem k) sum) (All-get_or (λ s. sum_of days (duty_list problem k set) s ≤ most_of (year_of problem k) (eleven_of problem k) s) sums j MonthFlight inside kept) (more sum) enough_room)

  -- and if it is legal, it finds room
  pub room-next : (rooms loads : List ℕ) → AreRoomsOf problem k set rooms
      → loads ≡ map (load_of days brought) sums → IsLegal problem k (set ++ p ∷ []) → (j : ℕ)
      → slice_index loads j ≤ slice_index rooms j
  room-next rooms loads are is legal_next j =
      elim (cases_lt j (length sums)) [
        | inl inside ↦
            let sum : Sum = get_or sums j MonthFlight in
            let load = ap (λ l. get_or l j 0) is ∙ loads_at j inside in
            let room = ap (λ r. get_or r j 0) are ∙ rooms_at (duty_list problem k set) j inside in
            let all =
            sums-by_limits days (duty_list problem k (set ++ p ∷ [])) (year_of problem k)
            (eleven_of problem k) (λ limit. next-holds set legal_next (LimitRule limit)) in
            let kept = All-get_or (λ s. sum_of days (duty_list problem k (set ++ p ∷ [])) s ≤ most_of (year_of problem k) (eleven_of problem k) s) sums j MonthFlight inside all in
            let one =
            fits (most_of (year_of problem k) (eleven_of problem k) sum)
            (sum_of days (duty_list problem k set) sum) (sum_of days brought sum)
            (sum_of days (duty_list problem k (set ++ p ∷ [])) sum) (more sum) kept in
            omega arith
        | inr past ↦
            let none = ap (λ l. get_or l j 0) is ∙ get_or_past (map (load_of days brought) sums) j 0 (omega (arith, length-map sums (load_of days brought))) in
            omega arith
      ]

  -- a set with two pairings or more keeps the limits
  pub within-set : 2 ≤ length set
      → AreWithin days (duty_list problem k set) (year_of problem k) (eleven_of problem k)
  within-set many =
      sums-by_limits days (duty_list problem k set) (year_of problem k) (eleven_of problem k)
      (λ limit. some_hold set many legal (LimitRule limit))

-- what the fixed duties leave
pub rooms-fixed : (problem : Problem) (k : ℕ) (days : Days) (list : List Duty) (year eleven : ℕ) (rooms : List ℕ) → rooms ≡ map (room_of days list year eleven) (judged_sums days) → days ≡ (home_of problem k).days → list ≡ duty_list problem k [] → year ≡ year_of problem k → eleven ≡ eleven_of problem k → AreRoomsOf problem k [] rooms
rooms-fixed problem k _ list year eleven rooms is same_days same_list same_year same_eleven =
    is
    ∙ ap (λ (d : Days). map (room_of d list year eleven) (judged_sums d)) same_days
    ∙ ap (λ (l : List Duty). map (room_of (home_of problem k).days l year eleven) (judged_sums (home_of problem k).days)) same_list
    ∙ ap (λ (y : ℕ). map (room_of (home_of problem k).days (duty_list problem k []) y eleven) (judged_sums (home_of problem k).days)) same_year
    ∙ ap (λ (e : ℕ). map (room_of (home_of problem k).days (duty_list problem k []) (year_of problem k) e) (judged_sums (home_of problem k).days)) same_eleven

pub year-of_person : (problem : Problem) (k : ℕ) (person : Person) → slice_get problem.persons k ≡ Some person
    → (person.year ≡ year_of problem k) × (person.eleven ≡ eleven_of problem k)
year-of_person _ k person at = (
  sym (ap (λ (o : Option Person). unwrap_or (option_map (λ p. p.year) o) 0) at),
  sym (ap (λ (o : Option Person). unwrap_or (option_map (λ p. p.eleven) o) 0) at),
)

-- what is known with the pairing behind
pub stepped-next : (stepped : Stepped) (p depth busy word : ℕ) (old rooms positions left loads : List ℕ)
    → IsPlaced stepped.loads → IsStepped stepped.loads stepped.set depth old rooms busy → IsNext stepped p
    → AreDutiesOf stepped.loads.problem stepped.loads.person (stepped.set ++ p ∷ []) positions
    → IsLoadOf stepped.loads.problem stepped.loads.person p loads → length left ≡ length rooms
    → ((j : ℕ) → slice_index left j ≡ slice_index rooms j - slice_index loads j)
    → AreBusyDaysOf stepped.loads.problem stepped.loads.person (stepped.set ++ p ∷ []) word
    → (2 ≤ length stepped.set → HoldLater stepped.loads.problem stepped.loads.person (stepped.set ++ p ∷ []))
    → IsStepped stepped.loads (stepped.set ++ p ∷ []) (depth + 1) positions left word
stepped-next stepped p depth busy word old rooms positions left loads placed known next duties load long each busy_now later = record {
  ascending =
      rising_from_Ascends _
      (Ascends-push stepped.set p (Ascends-from_rising stepped.set known.ascending) next.behind);
  legal = next-legal stepped p placed.ordered placed.timed known.legal next later;
  depth = ap (λ n. n + 1) known.depth ∙ sym (length_push stepped.set p);
  duties = duties;
  rooms = rooms-next stepped p placed.ordered placed.timed known.legal next rooms loads left known.rooms load long each;
  busy = busy_now;
}
