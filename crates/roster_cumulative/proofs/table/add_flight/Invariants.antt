use Rattle.std.proofs.Common.{◌≡◌, ℕ, ◌+◌, take}
use Rattle.std.specs.Prelude.{slice_index}
use Rattle.std.specs.List.{sum_by}
use Rattle.roster_model.specs.Sums.{flown_between}
use Rattle.roster_cumulative.proofs.table.add_flight.Given as goal

-- the sectors so far
abbrev pub invariant-loop-sector : goal.invariant-loop-sector
invariant-loop-sector l =
    (i : ℕ) → slice_index l.table i ≡ slice_index l.fn.table i + sum_by (λ sector. flown_between sector
    (slice_index l.days.mid i) (slice_index l.days.mid (i + 1))) (take l.sector-index l.duty.sectors)
