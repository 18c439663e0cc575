-- What lies in the window of a base.
use Rattle.std.specs.Prelude.{ℕ, Bool, ◌&&◌, length, nat_le, slice_index}
use Rattle.roster_model.specs.Calendar.{Days}

-- the instant at which the local day i begins
abbrev pub midnight : Days → ℕ → ℕ
midnight days i = slice_index days.mid i

-- the time from one instant to another lies in the window
abbrev pub is_in_window : Days → ℕ → ℕ → Bool
is_in_window days from to = nat_le (midnight days 0) from && nat_le to (midnight days (length days.eight))
