-- What the limits judge, as sums: what they are of a list, and that the limits say no more.
use Rattle.std.proofs.Common.{◌≡◌, ℕ, zero, suc, ◌+◌, ◌-◌, ◌%◌, ◌<◌, ◌≤◌, false, min, List, [], ◌∷◌, ◌++◌, get_or, length, map, refl, replicate, sym, ap, ◌∙◌, arith}
use Rattle.std.specs.Prelude.{All, filter, slice_index}
use Rattle.std.specs.List.{range_with_len, sum_by}
use Rattle.std.proofs.Math.Path.{fun_ext}
use Rattle.std.proofs.lemmas.List.{length-map, map-append}
use Rattle.std.proofs.lemmas.List.Elements.{All-append, All-cons, All-head, All-map, All-nil, All-replicate, All-tail}
use Rattle.std.proofs.lemmas.Simd.{map-map}
use Rattle.roster_model.specs.Calendar.{Days}
use Rattle.roster_model.specs.Problem.{Problem}
use Rattle.roster_model.specs.declared.limits.TheConstants.{DAYS_BEFORE}
use Rattle.roster_model.specs.declared.profile.TheConstants.{SHORT_RUN, MIDDLE_RUN, LONG_RUN, MOST_DUTY_IN_7_DAYS, MOST_DUTY_IN_14_DAYS, MOST_DUTY_IN_28_DAYS, MOST_FLIGHT_IN_28_DAYS, MOST_FLIGHT_IN_A_YEAR, MOST_FLIGHT_IN_12_MONTHS}
use Rattle.roster_model.specs.records.Duty.{Duty}
use Rattle.roster_model.specs.Rules as rules
use Rattle.roster_model.specs.Rules.{HoldsLimit, duty_list, is_among}
use Rattle.roster_model.specs.Rules.Limits.{KeepsDuty7, KeepsDuty14, KeepsDuty28, KeepsFlight28, KeepsFlightYear, KeepsFlight12}
use Rattle.roster_model.specs.Sums.{duty_between, duty_on, flight_between, flight_on, in_run, judged_days, month_flight}
use Rattle.roster_problem.specs.Duties.{is_of_pairing}
use Rattle.roster_cumulative.specs.declared.judged.CappedSum.{CappedSum}
use Rattle.roster_cumulative.specs.declared.judged.TheConstants.{IN_A_TURN}
use Rattle.roster_cumulative.specs.declared.table.Measure.TheVariants as measures
use Rattle.roster_cumulative.specs.Judged.{Sum, Duty7, Duty14, Duty28, Flight28, MonthFlight, AreWithin, capped_of, judged_runs, judged_sums, load_of, most_load, most_of, room_of, sum_of}
use Rattle.roster_cumulative.specs.Table.{AreMinutesByDay}
use Rattle.roster_cumulative.proofs.ListedFlight.{listed-one_more}
use Rattle.roster_cumulative.proofs.MonthFlight.{sum_of_sums}

-- ---- of the tables of days

abbrev pub capped_runs : (ℕ → ℕ) → Days → ℕ → ℕ → List CappedSum
capped_runs minutes days n most =
    map (λ last. record { total = in_run minutes n last; most = most }) (judged_days days)

-- of judged runs
pub runs-of_tables : (days : Days) (list : List Duty) (year eleven : ℕ) (duty flight : List ℕ)
    → AreMinutesByDay measures.Duty days list duty → AreMinutesByDay measures.Flight days list flight
    → capped_runs (slice_index duty) days SHORT_RUN MOST_DUTY_IN_7_DAYS ++ capped_runs (slice_index duty) days MIDDLE_RUN MOST_DUTY_IN_14_DAYS
    ++ capped_runs (slice_index duty) days LONG_RUN MOST_DUTY_IN_28_DAYS
    ++ capped_runs (slice_index flight) days LONG_RUN MOST_FLIGHT_IN_28_DAYS
    ≡ map (capped_of days list year eleven) (judged_runs days)
runs-of_tables days list year eleven duty flight duties flights =
    ap (λ m. capped_runs m days SHORT_RUN MOST_DUTY_IN_7_DAYS ++ capped_runs m days MIDDLE_RUN MOST_DUTY_IN_14_DAYS ++ capped_runs m days LONG_RUN MOST_DUTY_IN_28_DAYS ++ capped_runs (slice_index flight) days LONG_RUN MOST_FLIGHT_IN_28_DAYS) (fun_ext {f = slice_index duty} {g = duty_on days list} duties.value)
    ∙ ap (λ m. capped_runs (duty_on days list) days SHORT_RUN MOST_DUTY_IN_7_DAYS ++ capped_runs (duty_on days list) days MIDDLE_RUN MOST_DUTY_IN_14_DAYS ++ capped_runs (duty_on days list) days LONG_RUN MOST_DUTY_IN_28_DAYS ++ capped_runs m days LONG_RUN MOST_FLIGHT_IN_28_DAYS) (fun_ext {f = slice_index flight} {g = flight_on days list} flights.value)
    ∙ sym (simp (map-append, map-map))

map-replicate : {X Y : Type 0} (f : X → Y) (n : ℕ) (x : X) → map f (replicate n x) ≡ replicate n (f x)
map-replicate f zero x = refl
map-replicate f (suc n) x = ap (λ xs. f x ∷ xs) (map-replicate f n x)

-- and with the month's flight behind them
pub sums-of_runs : (days : Days) (list : List Duty) (year eleven : ℕ) {runs : List CappedSum} (last : CappedSum) → runs ≡ map (capped_of days list year eleven) (judged_runs days) → last ≡ capped_of days list year eleven MonthFlight
    → runs ++ replicate (IN_A_TURN - length runs % IN_A_TURN) last ≡ map (capped_of days list year eleven) (judged_sums days)
sums-of_runs days list year eleven {runs} last are is =
    let capped = capped_of days list year eleven in
    let more = IN_A_TURN - length (judged_runs days) % IN_A_TURN in
    ap (λ xs. xs ++ replicate (IN_A_TURN - length xs % IN_A_TURN) last) are
    ∙ ap (λ n. map capped (judged_runs days) ++ replicate (IN_A_TURN - n % IN_A_TURN) last) (length-map (judged_runs days) capped)
    ∙ ap (λ l. map capped (judged_runs days) ++ replicate more l) is
    ∙ ap (λ xs. map capped (judged_runs days) ++ xs) (sym (map-replicate capped more MonthFlight))
    ∙ sym (map-append capped (judged_runs days) (replicate more MonthFlight))

-- ---- rooms and loads

pub most-few : (year eleven : ℕ) (sum : Sum) → most_of year eleven sum ≤ MOST_FLIGHT_IN_12_MONTHS
most-few year eleven (Duty7 last) = omega arith
most-few year eleven (Duty14 last) = omega arith
most-few year eleven (Duty28 last) = omega arith
most-few year eleven (Flight28 last) = omega arith
most-few year eleven MonthFlight = omega arith

one-room : (days : Days) (list : List Duty) (year eleven : ℕ) (sum : Sum)
    → min most_load (most_of year eleven sum - sum_of days list sum) ≡ room_of days list year eleven sum
one-room days list year eleven sum = let few = most-few year eleven sum in omega arith

pub rooms-of_sums : (days : Days) (list : List Duty) (year eleven : ℕ) → map (λ (s : CappedSum). min most_load (s.most - s.total)) (map (capped_of days list year eleven) (judged_sums days)) ≡ map (room_of days list year eleven) (judged_sums days)
rooms-of_sums days list year eleven =
    map-map (λ (s : CappedSum). min most_load (s.most - s.total)) (capped_of days list year eleven)
    (judged_sums days)
    ∙ ap (λ (f : Sum → ℕ). map f (judged_sums days)) (fun_ext (one-room days list year eleven))

pub loads-of_sums : (days : Days) (list : List Duty) (year eleven : ℕ) → map (λ (s : CappedSum). min most_load s.total) (map (capped_of days list year eleven) (judged_sums days)) ≡ map (load_of days list) (judged_sums days)
loads-of_sums days list year eleven =
    map-map (λ (s : CappedSum). min most_load s.total) (capped_of days list year eleven) (judged_sums days)

-- ---- the limits

all_parts : {X : Type 0} (P : X → Type 0) (xs ys : List X) → All P (xs ++ ys) → All P xs × All P ys
all_parts P [] ys all = (All-nil P, all)
all_parts P (x ∷ xs) ys all =
    let rest = all_parts P xs ys (All-tail P x (xs ++ ys) all) in
    (All-cons P x xs (All-head P x (xs ++ ys) all) rest.0, rest.1)

all_mapped : {X Y : Type 0} (P : X → Type 0) (f : Y → X) (ys : List Y) → All P (map f ys)
    → All (λ y. P (f y)) ys
all_mapped P f [] all = All-nil (λ y. P (f y))
all_mapped P f (y ∷ ys) all =
    All-cons (λ y. P (f y)) y ys (All-head P (f y) (map f ys) all)
    (all_mapped P f ys (All-tail P (f y) (map f ys) all))

one_of_many : {X : Type 0} (P : X → Type 0) (n : ℕ) (x : X) → 0 < n → All P (replicate n x) → P x
one_of_many P zero x some all = absurd (omega arith)
one_of_many P (suc n) x some all = All-head P x (replicate n x) all

-- the month's flight is there
some_month : (days : Days) → 0 < IN_A_TURN - length (judged_runs days) % IN_A_TURN
some_month days = omega arith

-- what a duty has of a sum
abbrev pub part_of : Days → Sum → Duty → ℕ
part_of days (Duty7 last) duty =
    sum_by (λ i. duty_between duty (get_or days.mid i 0) (get_or days.mid (i + 1) 0))
    (range_with_len (last + 1 - SHORT_RUN) SHORT_RUN)
part_of days (Duty14 last) duty =
    sum_by (λ i. duty_between duty (get_or days.mid i 0) (get_or days.mid (i + 1) 0))
    (range_with_len (last + 1 - MIDDLE_RUN) MIDDLE_RUN)
part_of days (Duty28 last) duty =
    sum_by (λ i. duty_between duty (get_or days.mid i 0) (get_or days.mid (i + 1) 0))
    (range_with_len (last + 1 - LONG_RUN) LONG_RUN)
part_of days (Flight28 last) duty =
    sum_by (λ i. flight_between duty (get_or days.mid i 0) (get_or days.mid (i + 1) 0))
    (range_with_len (last + 1 - LONG_RUN) LONG_RUN)
part_of days MonthFlight duty =
    sum_by (λ i. flight_between duty (get_or days.mid i 0) (get_or days.mid (i + 1) 0))
    (range_with_len DAYS_BEFORE days.month_days)

-- and all have
pub sum_of-parts : (days : Days) (list : List Duty) (sum : Sum)
    → sum_of days list sum ≡ sum_by (part_of days sum) list
sum_of-parts days list (Duty7 last) =
    sum_of_sums (λ (duty : Duty) i. duty_between duty (get_or days.mid i 0) (get_or days.mid (i + 1) 0)) list
    (range_with_len (last + 1 - SHORT_RUN) SHORT_RUN)
sum_of-parts days list (Duty14 last) =
    sum_of_sums (λ (duty : Duty) i. duty_between duty (get_or days.mid i 0) (get_or days.mid (i + 1) 0)) list
    (range_with_len (last + 1 - MIDDLE_RUN) MIDDLE_RUN)
sum_of-parts days list (Duty28 last) =
    sum_of_sums (λ (duty : Duty) i. duty_between duty (get_or days.mid i 0) (get_or days.mid (i + 1) 0)) list
    (range_with_len (last + 1 - LONG_RUN) LONG_RUN)
sum_of-parts days list (Flight28 last) =
    sum_of_sums
    (λ (duty : Duty) i. flight_between duty (get_or days.mid i 0) (get_or days.mid (i + 1) 0)) list
    (range_with_len (last + 1 - LONG_RUN) LONG_RUN)
sum_of-parts days list MonthFlight =
    sum_of_sums
    (λ (duty : Duty) i. flight_between duty (get_or days.mid i 0) (get_or days.mid (i + 1) 0)) list
    (range_with_len DAYS_BEFORE days.month_days)

-- so a pairing that comes to a set brings the sums of its duties
pub sum_of-one_more : (problem : Problem) (days : Days) (k p : ℕ) (set : List ℕ) (sum : Sum)
    → is_among set p ≡ false
    → sum_of days (duty_list problem k (set ++ p ∷ [])) sum ≡ sum_of days (duty_list problem k set) sum + sum_of days (filter (is_of_pairing p) problem.duties) sum
sum_of-one_more problem days k p set sum new =
    omega (
      arith,
      sum_of-parts days (duty_list problem k (set ++ p ∷ [])) sum,
      sum_of-parts days (duty_list problem k set) sum,
      sum_of-parts days (filter (is_of_pairing p) problem.duties) sum,
      listed-one_more (part_of days sum) problem k p set new,
    )

by_limit : (days : Days) (list : List Duty) (year eleven : ℕ) → KeepsDuty7 days list → KeepsDuty14 days list
    → KeepsDuty28 days list → KeepsFlight28 days list → KeepsFlightYear days list year
    → KeepsFlight12 days list eleven → (limit : rules.Limit) → HoldsLimit days list year eleven limit
by_limit days list year eleven a b c d e f rules.Duty7 = a
by_limit days list year eleven a b c d e f rules.Duty14 = b
by_limit days list year eleven a b c d e f rules.Duty28 = c
by_limit days list year eleven a b c d e f rules.Flight28 = d
by_limit days list year eleven a b c d e f rules.FlightYear = e
by_limit days list year eleven a b c d e f rules.Flight12 = f

pub limits-by_sums : (days : Days) (list : List Duty) (year eleven : ℕ) → year ≤ MOST_FLIGHT_IN_A_YEAR
    → eleven ≤ MOST_FLIGHT_IN_12_MONTHS → AreWithin days list year eleven → (limit : rules.Limit)
    → HoldsLimit days list year eleven limit
limits-by_sums days list year eleven few fewer all limit =
    let Within : Sum → Type 0 = λ sum. sum_of days list sum ≤ most_of year eleven sum in
    let J : List ℕ = judged_days days in
    let more = IN_A_TURN - length (judged_runs days) % IN_A_TURN in
    let five = all_parts Within (judged_runs days) (replicate more MonthFlight) all in
    let month : month_flight days list ≤ min (MOST_FLIGHT_IN_A_YEAR - year) (MOST_FLIGHT_IN_12_MONTHS - eleven) = one_of_many Within more MonthFlight (some_month days) five.1 in
    let four = all_parts Within (map Duty7 J ++ map Duty14 J ++ map Duty28 J) (map Flight28 J) five.0 in
    let three = all_parts Within (map Duty7 J ++ map Duty14 J) (map Duty28 J) four.0 in
    let two = all_parts Within (map Duty7 J) (map Duty14 J) three.0 in
    by_limit days list year eleven (all_mapped Within Duty7 J two.0) (all_mapped Within Duty14 J two.1)
    (all_mapped Within Duty28 J three.1) (all_mapped Within Flight28 J four.1) (omega arith)
    (omega arith) limit

pub sums-by_limits : (days : Days) (list : List Duty) (year eleven : ℕ)
    → ((limit : rules.Limit) → HoldsLimit days list year eleven limit) → AreWithin days list year eleven
sums-by_limits days list year eleven holds =
    let Within : Sum → Type 0 = λ sum. sum_of days list sum ≤ most_of year eleven sum in
    let J : List ℕ = judged_days days in
    let in_year : year + month_flight days list ≤ MOST_FLIGHT_IN_A_YEAR = holds rules.FlightYear in
    let in_twelve : eleven + month_flight days list ≤ MOST_FLIGHT_IN_12_MONTHS = holds rules.Flight12 in
    let month : month_flight days list ≤ min (MOST_FLIGHT_IN_A_YEAR - year) (MOST_FLIGHT_IN_12_MONTHS - eleven) = omega arith in
    let more = IN_A_TURN - length (judged_runs days) % IN_A_TURN in
    All-append Within (judged_runs days) (replicate more MonthFlight)
    (All-append Within (map Duty7 J ++ map Duty14 J ++ map Duty28 J) (map Flight28 J)
    (All-append Within (map Duty7 J ++ map Duty14 J) (map Duty28 J)
    (All-append Within (map Duty7 J) (map Duty14 J) (All-map Within Duty7 J (holds rules.Duty7)) (All-map Within Duty14 J (holds rules.Duty14)))
    (All-map Within Duty28 J (holds rules.Duty28)))
    (All-map Within Flight28 J (holds rules.Flight28)))
    (All-replicate Within more MonthFlight month)
