use Rattle.std.proofs.Common.{◌≡◌, ◌++◌, drop, map}
use Rattle.roster_desk_carry.specs.Tables.{carried}
use Rattle.roster_desk_carry.proofs.tables.carried_tables.Given as goal

-- the tables so far, and then those that are left
abbrev pub invariant-loop-table : goal.invariant-loop-table
invariant-loop-table l = map (λ file. file.table) l.files.items ++ drop l.table-index l.table-items ≡ carried
