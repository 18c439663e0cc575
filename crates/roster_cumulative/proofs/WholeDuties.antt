-- Days in a row have no more than whole duties.
use Rattle.std.proofs.Common.{ℕ, ◌+◌, ◌-◌, ◌≤◌, ◌<◌, Bool, true, false, cond, List, [], ◌∷◌, length, get_or, arith}
use Rattle.std.specs.Prelude.{All}
use Rattle.std.specs.List.{sum_by}
use Rattle.std.proofs.lemmas.List.Elements.{All-head, All-tail}
use Rattle.std.proofs.lemmas.List.FromFn.{get_or-range_with_len, length-range_with_len}
use Rattle.std.proofs.lemmas.List.Sums.{sum_by-cons}
use Rattle.roster_model.specs.declared.limits.TheConstants.{DAYS_BEFORE}
use Rattle.roster_model.specs.Calendar.{Days, IsTable, common}
use Rattle.roster_model.specs.Rules.Limits.{KeepsLimit}
use Rattle.roster_model.specs.Sums.{duty_between, flight_between, flown_between, in_run, on_day}
use Rattle.roster_model.specs.records.Duty.{Duty, Sector}
use Rattle.roster_cumulative.specs.Table.{minutes_of}
use Rattle.roster_cumulative.specs.declared.table.Measure.{Measure}
use Rattle.roster_cumulative.specs.declared.table.Measure.TheVariants as measures
use Rattle.roster_cumulative.proofs.Divided.{IsDivided, IsDivided-common, IsDivided-flight, IsDivided-sum_by, in_days}

-- ---- one duty

sector-whole : (operates : Bool) (off on from to report release : ℕ) → report ≤ off → on ≤ release
    → cond operates (common off on from to) 0 ≤ cond operates (common off on report release) 0
sector-whole true off on from to report release begin end = omega arith
sector-whole false off on from to report release begin end = omega arith

pub flown-whole : (report release from to : ℕ) (sectors : List Sector) → All (λ s. report ≤ s.off) sectors
    → All (λ s. s.on ≤ release) sectors
    → sum_by (λ s. flown_between s from to) sectors ≤ sum_by (λ s. flown_between s report release) sectors
flown-whole report release from to [] begins ends = omega arith
flown-whole report release from to (s ∷ rest) begins ends =
    let here =
    sector-whole s.operates s.off s.on from to report release
    (All-head (λ s. report ≤ s.off) s rest begins) (All-head (λ s. s.on ≤ release) s rest ends) in
    let later =
    flown-whole report release from to rest (All-tail (λ s. report ≤ s.off) s rest begins)
    (All-tail (λ s. s.on ≤ release) s rest ends) in
    omega (arith, sum_by-cons (λ s. flown_between s from to) s rest, sum_by-cons (λ s. flown_between s report release) s rest, here, later)

-- ---- runs

run-whole : (measure : Duty → ℕ → ℕ → ℕ) → ((duty : Duty) → IsDivided (measure duty)) → (days : Days)
    → IsTable days → (list : List Duty) (n last most : ℕ) → n ≤ last → last < length days.eight
    → ((from to : ℕ) → sum_by (λ duty. measure duty from to) list ≤ most)
    → in_run (on_day measure days list) n last ≤ most
run-whole measure divided days table list n last most short within few =
    let minutes = λ (from to : ℕ). sum_by (λ duty. measure duty from to) list in
    let run =
    in_days days table minutes (IsDivided-sum_by measure divided list) (last + 1 - n) n (last + 1)
    (omega arith) (omega arith) in
    omega (arith, run, few (get_or days.mid (last + 1 - n) 0) (get_or days.mid (last + 1) 0))

-- if all duties keep the limit, each judged run does
runs-whole : (measure : Duty → ℕ → ℕ → ℕ) → ((duty : Duty) → IsDivided (measure duty)) → (days : Days)
    → IsTable days → (list : List Duty) (n most : ℕ) → n ≤ DAYS_BEFORE
    → ((from to : ℕ) → sum_by (λ duty. measure duty from to) list ≤ most)
    → KeepsLimit (on_day measure days list) days n most
runs-whole measure divided days table list n most short few = λ k d inside.
    let judged = length days.eight - DAYS_BEFORE in
    let within : k < judged = omega (arith, inside, length-range_with_len DAYS_BEFORE judged) in
    rw (get_or-range_with_len DAYS_BEFORE judged k d within)
    (run-whole measure divided days table list n (DAYS_BEFORE + k) most (omega arith) (omega arith) few)

pub keeps-whole : (measure : Measure) (days : Days) → IsTable days → (list : List Duty) (n most : ℕ)
    → n ≤ DAYS_BEFORE
    → ((from to : ℕ) → sum_by (λ duty. minutes_of measure duty from to) list ≤ most)
    → KeepsLimit (on_day (minutes_of measure) days list) days n most
keeps-whole measures.Duty days table list n most short few =
    runs-whole duty_between
    (λ duty. IsDivided-common duty.report duty.release) days table list n most short few
keeps-whole measures.Flight days table list n most short few =
    runs-whole flight_between IsDivided-flight days table list n most short few
