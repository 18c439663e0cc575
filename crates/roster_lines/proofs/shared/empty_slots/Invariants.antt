use Rattle.std.proofs.Common.{◌≡◌, ℕ, length, Result, Some}
use Rattle.std.specs.Prelude.{List, slice_get}
use Rattle.roster_lines_table.specs.Entries.{Entry}
use Rattle.roster_lines.specs.declared.extend.LinesFault.{LinesFault}
use Rattle.roster_lines.specs.Made.{IsMadeOf}
use Rattle.roster_lines.proofs.shared.empty_slots.Given as goal

-- the slots so far
abbrev pub invariant-loop : goal.invariant-loop
invariant-loop l = record {
  long : length l.slots.items ≡ l.counter;
  each : (k : ℕ) (made : Result (List Entry) LinesFault) → slice_get l.slots.items k ≡ Some made
      → IsMadeOf l.problem k made;
}
