-- The flight of a duty is within the duty, and between two instants no more than lies between them.
use Rattle.std.proofs.Common.{ℕ, suc, ◌+◌, ◌-◌, ◌<◌, ◌≤◌, Bool, true, false, cond, List, [], ◌∷◌, arith}
use Rattle.std.specs.Prelude.{All, AllPairs}
use Rattle.std.specs.List.{sum_by}
use Rattle.std.proofs.lemmas.List.Elements.{All-head, All-tail}
use Rattle.std.proofs.lemmas.List.Sums.{sum_by-cons}
use Rattle.roster_model.specs.Calendar.{common}
use Rattle.roster_model.specs.records.Duty.{Duty, Sector}
use Rattle.roster_model.specs.Sums.{flight_between, flown_between}
use Rattle.roster_problem.specs.Sectors.{AreSectors}

at_most : (operates : Bool) (n : ℕ) → cond operates n 0 ≤ n
at_most true n = omega arith
at_most false n = omega arith

-- the time up to an instant, and the time from it on
in_two : (begin off on end from to : ℕ) → begin ≤ off → off < on → on ≤ end
    → common off on from to + common on end from to ≤ common begin end from to
in_two begin off on end from to first second third = omega arith

within : (begin end from to : ℕ) (sectors : List Sector) → All (λ s. begin ≤ s.off) sectors
    → All (λ s. s.off < s.on) sectors → All (λ s. s.on ≤ end) sectors → AllPairs (λ a b. a.on ≤ b.off) sectors
    → sum_by (λ s. flown_between s from to) sectors ≤ common begin end from to
within begin end from to [] begins timed ends apart = omega arith
within begin end from to (s ∷ rest) begins timed ends apart =
    let later =
    within s.on end from to rest (λ k d inside. apart 0 (suc k) d (omega arith) (omega arith))
    (All-tail (λ s. s.off < s.on) s rest timed) (All-tail (λ s. s.on ≤ end) s rest ends)
    (λ i j d before inside. apart (suc i) (suc j) d (omega arith) (omega arith)) in
    let first = at_most s.operates (common s.off s.on from to) in
    let both =
    in_two begin s.off s.on end from to (All-head (λ s. begin ≤ s.off) s rest begins)
    (All-head (λ s. s.off < s.on) s rest timed) (All-head (λ s. s.on ≤ end) s rest ends) in
    omega (arith, sum_by-cons (λ s. flown_between s from to) s rest, later, first, both)

pub flown-within : (report release from to : ℕ) (sectors : List Sector) → AreSectors report release sectors
    → sum_by (λ s. flown_between s from to) sectors ≤ common report release from to
flown-within report release from to sectors are =
    within report release from to sectors are.begin are.timed are.end are.apart

common-le : (a b c d : ℕ) → common a b c d ≤ b
common-le a b c d = omega arith

-- so it is short, as an instant is
pub flown-le : (report release from to most : ℕ) (sectors : List Sector) → AreSectors report release sectors
    → release ≤ most → sum_by (λ s. flown_between s from to) sectors ≤ most
flown-le report release from to most sectors are short =
    omega (arith, flown-within report release from to sectors are, common-le report release from to, short)

common-between : (a b c d : ℕ) → common a b c d ≤ d - c
common-between a b c d = omega arith

pub flight_between-le : (duty : Duty) (from to : ℕ) → AreSectors duty.report duty.release duty.sectors
    → flight_between duty from to ≤ to - from
flight_between-le duty from to are =
    omega (arith, flown-within duty.report duty.release from to duty.sectors are, common-between duty.report duty.release from to)
