-- What the pairings of a line take of a sum that limits judge: no more than fixed duties leave of it.
use Rattle.std.proofs.Common.{◌≡◌, ℕ, ◌+◌, ◌<◌, ◌≤◌, false, true, ◌||◌, eqb, List, [], ◌∷◌, ◌++◌, length, get_or, map, filter, refl, sym, ap, ◌∙◌, subst, inl, inr, arith}
use Rattle.std.specs.Prelude.{◌↔◌, All}
use Rattle.std.specs.List.{sum_by}
use Rattle.std.proofs.Math.Bool.{or-false}
use Rattle.std.proofs.lemmas.Bool.{cases_lt, ne_eqb, or_right}
use Rattle.std.proofs.lemmas.List.{append_assoc, append-nil, get_or-map, get_or_past, length-map}
use Rattle.std.proofs.lemmas.List.Elements.{All-head, All-tail}
use Rattle.std.proofs.lemmas.List.Sums.{sum_by-cons, sum_by-le-sum_by}
use Rattle.roster_model.specs.declared.profile.TheConstants.{MOST_FLIGHT_IN_12_MONTHS, MOST_FLIGHT_IN_A_YEAR}
use Rattle.roster_model.specs.Calendar.{Days}
use Rattle.roster_model.specs.Lines.{IsLine}
use Rattle.roster_model.specs.Problem.{Problem, eleven_of, home_of, year_of}
use Rattle.roster_model.specs.Rules.{duty_list, is_among, HoldsLimit, Limit, LimitRule}
use Rattle.roster_model.specs.records.Duty.{Duty}
use Rattle.roster_model.proofs.SetLemmas.{All-is_among, Ascends, Ascends-from_rising, is_among-append, is_among-here}
use Rattle.roster_lines_table.proofs.Fronts.{among_behind}
use Rattle.roster_problem.specs.Duties.{is_of_pairing}
use Rattle.roster_cumulative.specs.Judged.{judged_sums, load_of, most_of, room_of, sum_of, AreWithin, MonthFlight, Sum}
use Rattle.roster_plan_bound.specs.declared.parts.TheConstants.{MOST_LOAD}
use Rattle.roster_plan_bound.specs.Loads.{load_at, room_at}

-- ---- lists with one more

pub among-middle : (before : List ℕ) (q : ℕ) (rest : List ℕ) → is_among (before ++ q ∷ rest) q ≡ true
among-middle before q rest = among_behind before (q ∷ rest) q (is_among-here q rest)

pub among-with : (before : List ℕ) (q p : ℕ) → is_among (before ++ q ∷ []) p ≡ (is_among before p || eqb q p)
among-with before q p =
    is_among-append before (q ∷ []) p ∙ ap (λ b. is_among before p || b) (or-false (eqb q p))

-- ---- laws

-- a pairing that comes to a set brings the sums of its duties
abbrev pub MoreLaw : Type 0
MoreLaw =
    (problem : Problem) (days : Days) (k p : ℕ) (set : List ℕ) (sum : Sum) → is_among set p ≡ false
    → sum_of days (duty_list problem k (set ++ p ∷ [])) sum
    ≡ sum_of days (duty_list problem k set) sum + sum_of days (filter (is_of_pairing p) problem.duties) sum

-- a list keeps the limits exactly if no sum is more than there may be of it
abbrev pub LimitsLaw : Type 0
LimitsLaw =
    (days : Days) (list : List Duty) (year eleven : ℕ)
    → ((limit : Limit) → HoldsLimit days list year eleven limit)
    ↔ ((year ≤ MOST_FLIGHT_IN_A_YEAR) × (eleven ≤ MOST_FLIGHT_IN_12_MONTHS) × AreWithin days list year eleven)

-- what a pairing takes of a sum
abbrev taken : Problem → Days → Sum → ℕ → ℕ
taken problem days sum p = sum_of days (filter (is_of_pairing p) problem.duties) sum

module _ (more : MoreLaw) (problem : Problem) (k : ℕ) (days : Days) (sum : Sum) where
  taken-all : (front rest : List ℕ) → Ascends rest
      → ((q : ℕ) → is_among rest q ≡ true → is_among front q ≡ false)
      → sum_of days (duty_list problem k (front ++ rest)) sum
      ≡ sum_of days (duty_list problem k front) sum + sum_by (taken problem days sum) rest
  taken-all front [] up new =
      let same = ap (λ xs. sum_of days (duty_list problem k xs) sum) (append-nil front) in
      omega (arith, same)
  taken-all front (p ∷ rest) up new =
      let first = more problem days k p front sum (new p (is_among-here p rest)) in
      let joined : (front ++ p ∷ []) ++ rest ≡ front ++ p ∷ rest = append_assoc front (p ∷ []) rest in
      let same = ap (λ xs. sum_of days (duty_list problem k xs) sum) joined in
      let behind = taken-all (front ++ p ∷ []) rest up.1 (λ q there.
      let later : p < q = All-is_among (λ r. p < r) rest q up.0 there in
      among-with front p q
      ∙ ap (λ b. b || eqb p q) (new q (or_right (eqb p q) (is_among rest q) there))
      ∙ ne_eqb p q (λ equal. omega (arith, equal, later))) in
      omega (arith, first, same, behind, sum_by-cons (taken problem days sum) p rest)

  taken-set : (set : List ℕ) → Ascends set
      → sum_of days (duty_list problem k set) sum
      ≡ sum_of days (duty_list problem k []) sum + sum_by (taken problem days sum) set
  taken-set set up = taken-all [] set up (λ q there. refl)

-- nothing past the last sum
none-past : (problem : Problem) (k at : ℕ) (set : List ℕ)
    → length (judged_sums (home_of problem k).days) ≤ at → sum_by (load_at problem k at) set ≡ 0
none-past problem k at [] past = refl
none-past problem k at (p ∷ set) past =
    let list = map (load_of (home_of problem k).days (filter (is_of_pairing p) problem.duties)) (judged_sums (home_of problem k).days) in
    let long : length list ≡ length (judged_sums (home_of problem k).days) =
    length-map (judged_sums (home_of problem k).days) (load_of (home_of problem k).days (filter (is_of_pairing p) problem.duties)) in
    let here : load_at problem k at p ≡ 0 = get_or_past list at 0 (omega (arith, long, past)) in
    omega (arith, here, none-past problem k at set past, sum_by-cons (load_at problem k at) p set)

-- no more than is counted
pub load-few : (problem : Problem) (k at p : ℕ) → load_at problem k at p ≤ MOST_LOAD
load-few problem k at p =
    let days : Days = (home_of problem k).days in
    let sums : List Sum = judged_sums days in
    let load : Sum → ℕ = load_of days (filter (is_of_pairing p) problem.duties) in
    elim (cases_lt at (length sums)) [
      | inl inside ↦
          let here : load_at problem k at p ≡ load (get_or sums at MonthFlight) = get_or-map load sums at MonthFlight 0 inside in
          omega (arith, here)
      | inr past ↦
          let here : load_at problem k at p ≡ 0 = get_or_past (map load sums) at 0 (omega (arith, length-map sums load, past)) in
          omega (arith, here)
    ]

module _ (more : MoreLaw) (limits : LimitsLaw) (problem : Problem) (k at : ℕ) where
  abbrev days_here : Days
  days_here = (home_of problem k).days

  within-there : at < length (judged_sums days_here) → (set : List ℕ) → Ascends set
      → ((limit : Limit) → HoldsLimit days_here (duty_list problem k set) (year_of problem k) (eleven_of problem k) limit)
      → sum_by (load_at problem k at) set ≤ room_at problem k at
  within-there inside set up holds =
      let sums : List Sum = judged_sums days_here in
      let sum : Sum = get_or sums at MonthFlight in
      let year : ℕ = year_of problem k in
      let eleven : ℕ = eleven_of problem k in
      let within : sum_of days_here (duty_list problem k set) sum ≤ most_of year eleven sum =
      ((limits days_here (duty_list problem k set) year eleven).0 holds).2 at MonthFlight inside in
      let room : room_at problem k at ≡ room_of days_here (duty_list problem k []) year eleven sum =
      get_or-map (room_of days_here (duty_list problem k []) year eleven) sums at MonthFlight 0 inside in
      let each : (p : ℕ) → load_at problem k at p ≤ taken problem days_here sum p = λ p.
      let load : load_at problem k at p ≡ load_of days_here (filter (is_of_pairing p) problem.duties) sum =
      get_or-map (load_of days_here (filter (is_of_pairing p) problem.duties)) sums at MonthFlight 0 inside in
      omega (arith, load) in
      let all = sum_by-le-sum_by (load_at problem k at) (taken problem days_here sum) set each in
      let whole = taken-set more problem k days_here sum set up in
      omega (arith, within, room, all, whole)

  pub loads-within : (set : List ℕ) → IsLine problem k set
      → sum_by (load_at problem k at) set ≤ room_at problem k at
  loads-within set line =
      elim (cases_lt at (length (judged_sums days_here))) [
        | inl inside ↦ elim line.legal [
          | inl none ↦ subst (λ xs. sum_by (load_at problem k at) xs ≤ room_at problem k at) (sym none) (omega arith)
          | inr holds ↦ within-there inside set (Ascends-from_rising set line.ascending) (λ limit. holds (LimitRule limit))
        ]
        | inr past ↦ omega (arith, none-past problem k at set past)
      ]

-- what is known of each pairing that is there
same-sums : (f g : ℕ → ℕ) (set : List ℕ) (n : ℕ) → All (λ p. p < n) set → ((p : ℕ) → p < n → f p ≡ g p)
    → sum_by f set ≡ sum_by g set
same-sums f g [] n inside same = refl
same-sums f g (p ∷ set) n inside same =
    let here = same p (All-head (λ q. q < n) p set inside) in
    omega (arith, here, same-sums f g set n (All-tail (λ q. q < n) p set inside) same, sum_by-cons f p set, sum_by-cons g p set)

pub loads-kept : MoreLaw → LimitsLaw → (problem : Problem) (k at : ℕ) (loads : List ℕ)
    → ((p : ℕ) → p < length problem.pairings → get_or loads p 0 ≡ load_at problem k at p)
    → (set : List ℕ) → IsLine problem k set → sum_by (λ p. get_or loads p 0) set ≤ room_at problem k at
loads-kept more limits problem k at loads are set line =
    omega (arith, loads-within more limits problem k at set line, same-sums (λ p. get_or loads p 0) (load_at problem k at) set (length problem.pairings) line.places are)
