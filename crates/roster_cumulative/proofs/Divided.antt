-- What is counted between two instants may be divided at any instant between them.
use Rattle.std.proofs.Common.{◌≡◌, ℕ, zero, suc, ◌+◌, ◌≤◌, Bool, true, false, cond, List, [], ◌∷◌, length, get_or, refl, sym, ap, ◌∙◌, arith}
use Rattle.std.specs.List.{range_with_len, sum_by}
use Rattle.std.proofs.lemmas.List.Sums.{sum_by-cons}
use Rattle.roster_model.proofs.SumLemmas.{sum_by-range_more}
use Rattle.roster_model.specs.declared.limits.TheConstants.{DAYS_BEFORE, MOST_MONTH_MINUTES}
use Rattle.roster_model.specs.Calendar.{Days, IsTable, common, month_start, month_end}
use Rattle.roster_model.specs.records.Duty.{Duty, Sector}
use Rattle.roster_model.specs.Sums.{flight_between, flown_between, in_month, duty_flight}
use Rattle.roster_problem.specs.Sectors.{AreSectors}
use Rattle.roster_cumulative.proofs.Flown.{flight_between-le}
use Rattle.roster_model.proofs.WindowLemmas.{mids-in_order}

-- nothing lies within an instant, and two parts are the whole
pub record IsDivided (minutes : ℕ → ℕ → ℕ) : Type 0 where
  pub nothing : (at : ℕ) → minutes at at ≡ 0
  pub parts : (from at to : ℕ) → from ≤ at → at ≤ to → minutes from at + minutes at to ≡ minutes from to

pub IsDivided-common : (a b : ℕ) → IsDivided (common a b)
IsDivided-common a b = record { nothing = λ at. omega arith; parts = λ from at to first second. omega arith }

IsDivided-cond : (counts : Bool) (minutes : ℕ → ℕ → ℕ) → IsDivided minutes
    → IsDivided (λ from to. cond counts (minutes from to) 0)
IsDivided-cond true minutes is = is
IsDivided-cond false minutes is =
    record { nothing = λ at. omega arith; parts = λ from at to first second. omega arith }

IsDivided-flown : (sector : Sector) → IsDivided (flown_between sector)
IsDivided-flown sector =
    IsDivided-cond sector.operates (common sector.off sector.on) (IsDivided-common sector.off sector.on)

pub IsDivided-sum_by : {X : Type 0} (minutes : X → ℕ → ℕ → ℕ) → ((x : X) → IsDivided (minutes x))
    → (xs : List X) → IsDivided (λ from to. sum_by (λ x. minutes x from to) xs)
IsDivided-sum_by minutes each [] =
    record { nothing = λ at. omega arith; parts = λ from at to first second. omega arith }
IsDivided-sum_by minutes each (x ∷ xs) =
    let here = each x in
    let rest = IsDivided-sum_by minutes each xs in
    let one = λ (from to : ℕ). sum_by-cons (λ x. minutes x from to) x xs in
    record {
      nothing = λ at. omega (arith, one at at, here.nothing at, rest.nothing at);
      parts = λ from at to first second. omega (arith, one from at, one at to, one from to, here.parts from at to first second, rest.parts from at to first second);
    }

pub IsDivided-flight : (duty : Duty) → IsDivided (flight_between duty)
IsDivided-flight duty = IsDivided-sum_by flown_between IsDivided-flown duty.sectors

-- days in a row of a table have together what lies between their first and their last midnight
pub in_days : (days : Days) → IsTable days → (minutes : ℕ → ℕ → ℕ) → IsDivided minutes → (first n last : ℕ)
    → first + n ≡ last → last ≤ length days.eight
    → sum_by (λ i. minutes (get_or days.mid i 0) (get_or days.mid (i + 1) 0)) (range_with_len first n) ≡ minutes (get_or days.mid first 0) (get_or days.mid last 0)
in_days days table minutes is first zero last at within =
    let same : first ≡ last = omega arith in
    sym (is.nothing (get_or days.mid first 0))
    ∙ ap (λ k. minutes (get_or days.mid first 0) (get_or days.mid k 0)) same
in_days days table minutes is first (suc n) last at within =
    let next : first + n + 1 ≡ last = omega arith in
    let day = λ (i : ℕ). minutes (get_or days.mid i 0) (get_or days.mid (i + 1) 0) in
    let before = in_days days table minutes is first n (first + n) refl (omega arith) in
    let both =
    is.parts (get_or days.mid first 0) (get_or days.mid (first + n) 0) (get_or days.mid (first + n + 1) 0)
    (mids-in_order days table first (first + n) (omega arith) (omega arith))
    (mids-in_order days table (first + n) (first + n + 1) (omega arith) (omega arith)) in
    sum_by-range_more day first n (first + n) refl ∙ ap (λ m. m + day (first + n)) before ∙ both
    ∙ ap (λ k. minutes (get_or days.mid first 0) (get_or days.mid k 0)) next

-- so the days of the month have what lies between its beginning and its end
in_month-between : (days : Days) → IsTable days → (minutes : ℕ → ℕ → ℕ) → IsDivided minutes → in_month (λ i. minutes (get_or days.mid i 0) (get_or days.mid (i + 1) 0)) days ≡ minutes (month_start days) (month_end days)
in_month-between days table minutes is =
    let long = table.eight in
    in_days days table minutes is DAYS_BEFORE days.month_days (DAYS_BEFORE + days.month_days) refl
    (omega arith)

-- and a duty its flight of the whole month
pub duty_flight-between : (days : Days) (duty : Duty) → IsTable days
    → duty_flight days duty ≡ flight_between duty (month_start days) (month_end days)
duty_flight-between days duty table =
    let one = IsDivided-sum_by flight_between IsDivided-flight (duty ∷ []) in
    in_month-between days table (λ from to. sum_by (λ d. flight_between d from to) (duty ∷ [])) one
    ∙ sum_by-cons (λ d. flight_between d (month_start days) (month_end days)) duty []
    ∙ omega arith

pub duty_flight-short : (days : Days) (duty : Duty) → IsTable days
    → AreSectors duty.report duty.release duty.sectors → duty_flight days duty ≤ MOST_MONTH_MINUTES
duty_flight-short days duty table are =
    let between = flight_between-le duty (month_start days) (month_end days) are in
    let short = table.short in
    omega (arith, duty_flight-between days duty table, between, short)
