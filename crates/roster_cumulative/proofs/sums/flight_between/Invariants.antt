use Rattle.std.proofs.Common.{◌≡◌, take}
use Rattle.std.specs.List.{sum_by}
use Rattle.roster_model.specs.Sums.{flown_between}
use Rattle.roster_cumulative.proofs.sums.flight_between.Given as goal

-- the sectors so far
abbrev pub invariant-loop-sector : goal.invariant-loop-sector
invariant-loop-sector l =
    l.total ≡ sum_by (λ sector. flown_between sector l.from l.to) (take l.sector-index l.duty.sectors)
