-- What paths bring: each line is a path, and tables say what paths bring at least.
use Rattle.std.proofs.Common.{◌≡◌, ℕ, ◌+◌, ◌*◌, ◌<◌, ◌≤◌, true, false, ◌||◌, eqb, List, [], ◌∷◌, ◌++◌, length, get_or, Some, refl, sym, ap, ◌∙◌, subst, inl, inr, arith, ℤ, pos, neg_ℤ, ◌+ℤ◌, ◌*ℤ◌, ◌≤ℤ◌, append_assoc}
use Rattle.std.proofs.Math.IntN.{*ℤ-zero}
use Rattle.std.proofs.Math.Nat.{mul-le-mul_right}
use Rattle.roster_model.specs.declared.profile.TheConstants.{MOST_FLIGHT_IN_12_MONTHS, MOST_FLIGHT_IN_A_YEAR}
use Rattle.std.specs.Prelude.{All, slice_get, slice_index, unwrap_or}
use Rattle.std.specs.List.{list_any, sum_by, AllByRecursion, IsDistinct}
use Rattle.std.specs.List.Sorted.{IsStrictlyIncreasing}
use Rattle.std.proofs.lemmas.Bool.{cases_eq, false≢true, ne_eqb}
use Rattle.std.proofs.lemmas.Int.{ints}
use Rattle.std.proofs.lemmas.List.Elements.{All-head, All-tail}
use Rattle.std.proofs.lemmas.List.Sums.{sum_by-append, sum_by-cons}
use Rattle.std.proofs.lemmas.Map.Steps.{length-le_from_distinct_below}
use Rattle.std.proofs.lemmas.Option.{slice_get-get_or}
use Rattle.roster_model.specs.declared.limits.TheConstants.{MOST_PAIRINGS, MOST_WEIGHT}
use Rattle.roster_model.specs.Costs.{distance, flight_of, total}
use Rattle.roster_model.specs.Lines.{IsLine}
use Rattle.roster_model.specs.Problem.{Problem, eleven_of, target_of, units_of, weight_of, year_of}
use Rattle.roster_model.specs.Rules.{is_among, FlightYear, Flight12, IsLegal, LimitRule}
use Rattle.roster_model.proofs.CostLemmas.{total-nil, total-cons, total-append}
use Rattle.roster_model.proofs.SetLemmas.{is_among-append, All-is_among, All-from_is_among}
use Rattle.roster_cost.specs.Amounts.{minutes_of_pairing, IsWithin}
use Rattle.roster_lines.specs.Listing.{AreFlights, ArePartsLegal}
use Rattle.roster_plan_bound.specs.declared.parts.TheConstants.{MOST_BEHIND, MOST_CHAIN_VALUE, MOST_LEAST, MOST_SHORT, PARTS}
use Rattle.roster_plan_bound.specs.declared.worths.WorthTable.{WorthTable}
use Rattle.roster_plan_bound.specs.declared.rows_behind.OwedRows.{OwedRows}
use Rattle.roster_plan_bound.specs.declared.timeline.Timeline.{Timeline}
use Rattle.roster_plan_bound.specs.Behinds.{row_at, row_for}
use Rattle.roster_plan_bound.specs.Chains.{value_at}
use Rattle.roster_plan_bound.specs.Networks.{missed_at, AreValues}
use Rattle.roster_plan_bound.specs.Prospects.{gain_of, short_of, AreLaden, AreWorth, IsAhead, IsLeastPath, IsTable}
use Rattle.roster_plan_bound.specs.Ranked.{IsRanked}
use Rattle.roster_plan_bound.specs.Reduced.{reduced}
use Rattle.roster_plan_bound.specs.Timelines.{flight_along, load_along, rank_of, spare_flight, IsPath, IsTimeline}
use Rattle.roster_plan_bound.proofs.ChainLemmas.{single_among, total_values, AddsFlight}
use Rattle.roster_plan_bound.proofs.ProductLemmas.{abs_within, times_more, toll_below}
use Rattle.roster_plan_bound.proofs.TargetLemmas.{distance_abs, term_is}
use Rattle.roster_plan_bound.proofs.RankedLemmas.{ranked_of, ranked-above, ranked-every, ranked-rest, AreTold}

-- ---- what a path brings

pub worths_are : (problem : Problem) (k : ℕ) (units values : List ℤ) (flights : List ℕ) (worth : ℤ)
    → length units ≡ length problem.pairings → AreFlights problem k flights → length values ≡ length units
    → ((p : ℕ) → p < length units → value_at values p ≡ value_at units p +ℤ (worth *ℤ pos (slice_index flights p)))
    → AreWorth problem k units worth values
worths_are problem k units values flights worth covers are long each = record {
  covers = long ∙ covers;
  each = λ p inside.
      let flight : slice_index flights p ≡ minutes_of_pairing problem k p =
      are.each p (slice_index flights p) (slice_get-get_or flights p 0 (omega (arith, inside, are.covers))) in
      each p (omega (arith, inside, covers))
      ∙ ap (λ n. value_at units p +ℤ (worth *ℤ pos n)) flight;
}

-- at what each minute of flight costs
pub total_worth : (problem : Problem) (k : ℕ) (units values : List ℤ) (worth : ℤ)
    → AreWorth problem k units worth values → (path : List ℕ) → All (λ p. p < length problem.pairings) path
    → total (value_at values) path ≡ total (value_at units) path +ℤ (worth *ℤ pos (flight_along problem k path))
total_worth problem k units values worth are [] inside =
    let none : worth *ℤ pos 0 ≡ pos 0 = *ℤ-zero worth in
    omega (arith, ints, total-nil (value_at values), total-nil (value_at units), none)
total_worth problem k units values worth are (p ∷ rest) inside =
    let here = are.each p (All-head (λ q. q < length problem.pairings) p rest inside) in
    let behind =
    total_worth problem k units values worth are rest
    (All-tail (λ q. q < length problem.pairings) p rest inside) in
    let flight : worth *ℤ pos (flight_along problem k (p ∷ rest)) ≡ (worth *ℤ pos (minutes_of_pairing problem k p)) +ℤ (worth *ℤ pos (flight_along problem k rest)) =
    ap (λ n. worth *ℤ pos n) (sum_by-cons (minutes_of_pairing problem k) p rest)
    ∙ times_more worth (minutes_of_pairing problem k p) (flight_along problem k rest) in
    omega (arith, ints, here, behind, flight, total-cons (value_at values) p rest, total-cons (value_at units) p rest)

-- and at what each minute of a load costs
total_laden : (problem : Problem) (timeline : Timeline) (units laden : List ℤ) (toll : ℤ)
    → AreLaden problem timeline units toll laden → (path : List ℕ) → All (λ p. p < length problem.pairings) path
    → total (value_at laden) path ≡ total (value_at units) path +ℤ (toll *ℤ pos (load_along timeline path))
total_laden problem timeline units laden toll are [] inside =
    let none : toll *ℤ pos 0 ≡ pos 0 = *ℤ-zero toll in
    omega (arith, ints, total-nil (value_at laden), total-nil (value_at units), none)
total_laden problem timeline units laden toll are (p ∷ rest) inside =
    let load : ℕ → ℕ = slice_index timeline.loads.items in
    let here = are.each p (All-head (λ q. q < length problem.pairings) p rest inside) in
    let behind =
    total_laden problem timeline units laden toll are rest
    (All-tail (λ q. q < length problem.pairings) p rest inside) in
    let loads : toll *ℤ pos (load_along timeline (p ∷ rest)) ≡ (toll *ℤ pos (load p)) +ℤ (toll *ℤ pos (load_along timeline rest)) =
    ap (λ n. toll *ℤ pos n) (sum_by-cons load p rest) ∙ times_more toll (load p) (load_along timeline rest) in
    omega (arith, ints, here, behind, loads, total-cons (value_at laden) p rest, total-cons (value_at units) p rest)

-- no less than a table says
table_below : (problem : Problem) (k : ℕ) (timeline : Timeline) (units : List ℤ) (table : WorthTable)
    → (is : IsTable problem k timeline units table) → (path : List ℕ) → IsPath problem k timeline path
    → (total (value_at is.values) path +ℤ table.fixed) ≤ℤ gain_of problem k units path
table_below problem k timeline units table is path of =
    let brought = total_worth problem k is.laden is.values table.worth is.worths path of.places in
    let laden = total_laden problem timeline units is.laden table.toll is.loads path of.places in
    let flight : ℕ = flight_along problem k path in
    let at = is.fixed flight of.spare in
    let tolls = toll_below table.toll (load_along timeline path) timeline.spare_load is.some of.light in
    let term = term_is problem k flight (pos (PARTS * weight_of problem)) (short_of problem k) refl refl in
    omega (arith, ints, brought, laden, at, tolls, term)

pub rows_within : (problem : Problem) (k : ℕ) (timeline : Timeline) (units : List ℤ) (table : WorthTable)
    → IsTable problem k timeline units table → (need : ℕ)
    → All (λ rows. All (IsWithin MOST_BEHIND) (row_for rows need)) table.behind.rows.items
rows_within problem k timeline units table is need i d inside =
    (is.behind.rows i (get_or table.behind.rows.items i d) (slice_get-get_or table.behind.rows.items i d inside) need).within

All_front : (P : ℕ → Type 0) (front back : List ℕ) → All P (front ++ back) → All P front
All_front P front back all =
    All-from_is_among P front
    (λ p h. All-is_among P (front ++ back) p all (is_among-append front back p ∙ ap (λ b. b || is_among back p) h))

-- what a table says of each path
pub begun_below : (problem : Problem) (k : ℕ) (timeline : Timeline) (units : List ℤ) (table : WorthTable)
    (amount : ℤ) → IsTable problem k timeline units table → amount ≡ table.behind.begun +ℤ table.fixed
    → IsLeastPath problem k timeline units amount
begun_below problem k timeline units table amount is told path of =
    let behind = is.behind.begun path of in
    let below = table_below problem k timeline units table is path of in
    omega (arith, ints, told, behind, below)

abbrev no_rows : OwedRows
no_rows = record { none = []; one = []; two = [] }

-- and a row of what is ahead
pub ahead_below : (problem : Problem) (k : ℕ) (timeline : Timeline) (units : List ℤ) (table : WorthTable)
    (value : ℤ) (flight load q class need : ℕ) (amount : ℤ) → IsTable problem k timeline units table
    → q < length problem.pairings
    → ((rows : OwedRows) → slice_get table.behind.rows.items q ≡ Some rows
    → amount ≡ (value +ℤ (table.toll *ℤ pos load)) +ℤ (table.worth *ℤ pos flight) +ℤ table.fixed +ℤ row_at (row_for rows need) class)
    → IsAhead problem k timeline units value flight load q class need amount
ahead_below problem k timeline units table value flight load q class need amount is place tells before rest of begun low owed brought flown taken =
    let front : List ℕ = before ++ q ∷ [] in
    let whole : List ℕ = before ++ q ∷ rest in
    let joined : front ++ rest ≡ whole = append_assoc before (q ∷ []) rest in
    let rows : OwedRows = get_or table.behind.rows.items q no_rows in
    let at = slice_get-get_or table.behind.rows.items q no_rows (omega (arith, is.behind.covers, place)) in
    let behind = (is.behind.rows q rows at need).each class low before rest of begun owed in
    let told = tells rows at in
    let inside : All (λ p. p < length problem.pairings) (front ++ rest) =
    subst (All (λ p. p < length problem.pairings)) (sym joined) of.places in
    let there = All_front (λ p. p < length problem.pairings) front rest inside in
    let first = total_worth problem k is.laden is.values table.worth is.worths front there in
    let laden = total_laden problem timeline units is.laden table.toll is.loads front there in
    let split : total (value_at is.values) whole ≡ total (value_at is.values) front +ℤ total (value_at is.values) rest =
    ap (total (value_at is.values)) (sym joined) ∙ total-append (value_at is.values) front rest in
    let same : table.worth *ℤ pos (flight_along problem k front) ≡ table.worth *ℤ pos flight =
    ap (λ n. table.worth *ℤ pos n) (sym flown) in
    let same_load : table.toll *ℤ pos (load_along timeline front) ≡ table.toll *ℤ pos load =
    ap (λ n. table.toll *ℤ pos n) (sym taken) in
    let below = table_below problem k timeline units table is whole of in
    omega (arith, ints, told, behind, first, laden, split, same, same_load, brought, below)

-- no path begins with more flight than limits leave
pub none_beyond : (problem : Problem) (k : ℕ) (timeline : Timeline) (flight q : ℕ) (before rest : List ℕ)
    → IsPath problem k timeline (before ++ q ∷ rest) → flight ≡ flight_along problem k (before ++ q ∷ [])
    → spare_flight problem k < flight → ⊥
none_beyond problem k timeline flight q before rest of flown more =
    let minutes : ℕ → ℕ = minutes_of_pairing problem k in
    let joined : sum_by minutes ((before ++ q ∷ []) ++ rest) ≡ flight_along problem k (before ++ q ∷ rest) =
    ap (sum_by minutes) (append_assoc before (q ∷ []) rest) in
    let parted = sum_by-append minutes (before ++ q ∷ []) rest in
    omega (arith, more, flown, joined, parted, of.spare)

-- nor with more of the sum that is watched
pub none_heavier : (problem : Problem) (k : ℕ) (timeline : Timeline) (load q : ℕ) (before rest : List ℕ)
    → IsPath problem k timeline (before ++ q ∷ rest) → load ≡ load_along timeline (before ++ q ∷ [])
    → timeline.spare_load < load → ⊥
none_heavier problem k timeline load q before rest of taken more =
    let loads : ℕ → ℕ = slice_index timeline.loads.items in
    let joined : sum_by loads ((before ++ q ∷ []) ++ rest) ≡ load_along timeline (before ++ q ∷ rest) =
    ap (sum_by loads) (append_assoc before (q ∷ []) rest) in
    let parted = sum_by-append loads (before ++ q ∷ []) rest in
    omega (arith, more, taken, joined, parted, of.light)

-- ---- what no path brings less than, whatever the tables

apart : (rank : ℕ → ℕ) (p : ℕ) (rest : List ℕ) → All (λ q. rank p < rank q) rest
    → AllByRecursion (λ q. eqb p q ≡ false) rest
apart rank p [] above = tt
apart rank p (q ∷ rest) above =
    let first : rank p < rank q = All-head (λ r. rank p < rank r) q rest above in
    let other : p ≡ q → ⊥ = λ same. let equal : rank p ≡ rank q = ap rank same in omega (arith, equal, first) in
    (ne_eqb p q other, apart rank p rest (All-tail (λ r. rank p < rank r) q rest above))

distinct : (rank : ℕ → ℕ) (path : List ℕ) → IsRanked rank path → IsDistinct eqb path
unfolding IsDistinct
distinct rank [] ranked = tt
distinct rank (p ∷ rest) ranked =
    (apart rank p rest (ranked-above rank p rest ranked), distinct rank rest (ranked-rest rank p rest ranked))

listed_below : (n : ℕ) (path : List ℕ) → All (λ p. p < n) path → (q : ℕ) → list_any (eqb q) path ≡ true → q < n
listed_below n [] inside q there = absurd (false≢true there)
listed_below n (p ∷ rest) inside q there =
    elim (cases_eq q p) [
      | inl same ↦ subst (λ r. r < n) (sym same) (All-head (λ r. r < n) p rest inside)
      | inr other ↦ listed_below n rest (All-tail (λ r. r < n) p rest inside) q (sym (ap (λ b. b || list_any (eqb q) rest) (ne_eqb q p other)) ∙ there)
    ]

-- as many pairings as there are, at most
few_along : (rank : ℕ → ℕ) (n : ℕ) (path : List ℕ) → IsRanked rank path → All (λ p. p < n) path
    → length path ≤ n
few_along rank n path ranked inside =
    length-le_from_distinct_below path n (distinct rank path ranked) (listed_below n path inside)

units_low : (units : List ℤ) (path : List ℕ) → All (IsWithin MOST_CHAIN_VALUE) units
    → All (λ p. p < length units) path
    → neg_ℤ (pos (length path * MOST_CHAIN_VALUE)) ≤ℤ total (value_at units) path
units_low units [] within inside = omega (arith, ints, total-nil (value_at units))
units_low units (p ∷ rest) within inside =
    let here : IsWithin MOST_CHAIN_VALUE (value_at units p) = within p (pos 0) (All-head (λ q. q < length units) p rest inside) in
    let low = here.0 in
    let behind = units_low units rest within (All-tail (λ q. q < length units) p rest inside) in
    omega (arith, ints, low, behind, total-cons (value_at units) p rest)

pub gain_low : (problem : Problem) (prices : List ℤ) (k : ℕ) (timeline : Timeline) (units : List ℤ)
    → AreValues problem prices k units → length problem.pairings ≤ MOST_PAIRINGS
    → weight_of problem ≤ MOST_WEIGHT → IsWithin MOST_SHORT (short_of problem k)
    → IsLeastPath problem k timeline units (neg_ℤ (pos MOST_LEAST))
gain_low problem prices k timeline units are few light near path of =
    let count = few_along (rank_of timeline) (length problem.pairings) path of.ranked of.places in
    let inside : All (λ p. p < length units) path = subst (λ n. All (λ p. p < n) path) (sym are.covers) of.places in
    let low = units_low units path are.within inside in
    let fixed : ℕ = flight_of problem k [] in
    let away : distance fixed (target_of problem k) ≤ MOST_SHORT =
    omega (arith, sym (distance_abs fixed (target_of problem k)), abs_within MOST_SHORT (short_of problem k) near) in
    let more = mul-le-mul_right (distance fixed (target_of problem k)) light in
    omega (arith, ints, count, low, few, more, away)

-- ---- a line is a path

told_apart : (problem : Problem) (k : ℕ) (timeline : Timeline) → ArePartsLegal problem k
    → IsTimeline problem k timeline → (set : List ℕ) → IsLine problem k set → AreTold (rank_of timeline) set
told_apart problem k timeline parts is set line p q among_p among_q same =
    let alone : (r : ℕ) → is_among set r ≡ true → is_among timeline.alone r ≡ true =
    λ r among. (is.alone r).1 (All-is_among (λ s. s < length problem.pairings) set r line.places among, parts set (r ∷ []) (single_among set r among) line.legal) in
    ap (λ o. unwrap_or o p)
    (sym (is.order p (alone p among_p)) ∙ ap (slice_get timeline.order.items) same ∙ is.order q (alone q among_q))

-- no more flight comes to the fixed one than limits leave
within_limits : (problem : Problem) (k : ℕ) (set : List ℕ) (flight : ℕ) → IsLegal problem k set
    → flight_of problem k [] + flight ≡ flight_of problem k set → flight ≤ spare_flight problem k
within_limits problem k set flight legal adds =
    elim legal [
      | inl none ↦
          let same : flight_of problem k set ≡ flight_of problem k [] = ap (flight_of problem k) none in
          omega (arith, adds, same)
      | inr holds ↦
          let year : year_of problem k + flight_of problem k set ≤ MOST_FLIGHT_IN_A_YEAR = holds (LimitRule FlightYear) in
          let twelve : eleven_of problem k + flight_of problem k set ≤ MOST_FLIGHT_IN_12_MONTHS = holds (LimitRule Flight12) in
          omega (arith, adds, year, twelve)
    ]

-- no line has a lower reduced cost than all paths bring
pub line_above : (problem : Problem) (prices : List ℤ) (k : ℕ) (timeline : Timeline) (units : List ℤ) (least : ℤ)
    → ArePartsLegal problem k → ((set : List ℕ) → IsStrictlyIncreasing set → AddsFlight problem k set)
    → IsTimeline problem k timeline → AreValues problem prices k units
    → IsLeastPath problem k timeline units least
    → (set : List ℕ) → IsLine problem k set → least ≤ℤ reduced problem prices k set
line_above problem prices k timeline units least parts adds is are below set line =
    let of = ranked_of (rank_of timeline) set line.ascending (told_apart problem k timeline parts is set line) in
    let path : List ℕ = of.list in
    let flight : flight_of problem k [] + flight_along problem k path ≡ flight_of problem k set =
    ap (λ n. flight_of problem k [] + n) (of.sums (minutes_of_pairing problem k)) ∙ sym (adds set line.ascending) in
    let here = below path (record {
      legal = parts set path (λ p among. sym (of.members p) ∙ among) line.legal;
      ranked = of.ranked;
      places = ranked-every (rank_of timeline) (λ p. p < length problem.pairings) set of line.places;
      spare = within_limits problem k set (flight_along problem k path) line.legal flight;
      light =
          let taken = of.sums (slice_index timeline.loads.items) in
          let within = is.loads.within set line in
          omega (arith, taken, within);
    }) in
    let brought = total_values problem prices k units are set line.places in
    let same = of.totals (value_at units) in
    let missed : missed_at problem k (flight_of problem k [] + flight_along problem k path) ≡ missed_at problem k (flight_of problem k set) =
    ap (missed_at problem k) flight in
    omega (arith, ints, here, brought, same, missed, total-nil (units_of problem k))
