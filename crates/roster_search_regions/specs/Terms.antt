-- What open pairings and the pairings of a bound add, in parts of a cost unit.
use Rattle.std.specs.Prelude.{ℕ, ◌*◌, if◌then◌else◌, List, slice_get, unwrap_or, option_map, ℤ, pos, ◌-ℤ◌, ◌*ℤ◌, int_le}
use Rattle.roster_model.specs.Problem.{Problem}
use Rattle.roster_model.specs.Rules.{is_among}
use Rattle.roster_search_regions.specs.Prices.{price_at}
use Rattle.roster_search_regions.specs.Regions.{Region}

-- what it costs to leave the pairing at place p open
abbrev pub penalty_at : Problem → ℕ → ℕ
penalty_at problem p = unwrap_or (option_map (λ pairing. pairing.penalty) (slice_get problem.pairings p)) 0

abbrev pub fine_penalty : Problem → Region → ℕ → ℤ
fine_penalty problem region p = pos (region.scale * penalty_at problem p)

-- and less what an open pairing is paid
abbrev pub open_cost : Problem → Region → ℤ → ℕ → ℤ
open_cost problem region paid p = fine_penalty problem region p -ℤ paid

-- what the open pairings of a roster are paid at least, in all
abbrev pub paid_in : Region → ℤ → ℤ
paid_in region paid =
    if int_le (pos 0) paid then pos region.least_open *ℤ paid else pos region.most_open *ℤ paid

-- what the pairing at place p adds at least: what it costs if it is open, and its price if it isn't
abbrev pub term_of : Problem → Region → List ℤ → ℤ → ℕ → ℤ
term_of problem region prices paid p =
    if is_among region.left_open p then open_cost problem region paid p
    else if is_among region.flown p then price_at prices p
    else if int_le (price_at prices p) (open_cost problem region paid p) then price_at prices p
    else open_cost problem region paid p
