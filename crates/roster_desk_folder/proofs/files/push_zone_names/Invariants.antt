use Rattle.std.proofs.Common.{◌≡◌, All, string_bytes, true}
use Rattle.roster_desk_times.specs.Zones as zones
use Rattle.roster_desk_folder.proofs.files.push_zone_names.Given as goal

-- the names so far are names of zones
abbrev pub invariant-loop-i : goal.invariant-loop-i
invariant-loop-i l = All (λ name. zones.is_zone_name (string_bytes name) ≡ true) l.names.items
