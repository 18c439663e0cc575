-- Duties with their sectors, as they come record by record.
use Rattle.std.specs.Prelude.{ℕ, zero, suc, Bool, false, List, [], ◌∷◌, ◌++◌, length, Option, Some, None, slice_get}
use Rattle.std.specs.List.{sum_by}
use Rattle.std.specs.Option.{option_map_or}
use Rattle.roster_model.specs.records.Duty.{Duty, Sector}
use Rattle.roster_model.specs.records.Sector.{is_in_sequence}

-- the sectors of all duties, counted
unfoldable pub sector_count : List Duty → ℕ
sector_count duties = sum_by (λ duty. length duty.sectors) duties

-- the duty with one more sector behind its others
abbrev pub with_sector : Duty → Sector → Duty
with_sector duty sector = record duty { sectors = duty.sectors ++ sector ∷ [] }

-- the duties, of which the one at a place, if there is one, has one more sector
abbrev pub with_sector_at : List Duty → Option ℕ → Sector → List Duty
with_sector_at duties None sector = duties
with_sector_at [] (Some place) sector = []
with_sector_at (duty ∷ duties) (Some zero) sector = with_sector duty sector ∷ duties
with_sector_at (duty ∷ duties) (Some (suc place)) sector = duty ∷ with_sector_at duties (Some place) sector

-- there is a duty at the place, and the sector may come behind its others
abbrev pub fits_at : List Duty → ℕ → Sector → Bool
fits_at duties place sector =
    option_map_or (λ duty. is_in_sequence duty sector.off sector.on) (slice_get duties place) false
