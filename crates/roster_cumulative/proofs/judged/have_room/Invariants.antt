use Rattle.std.proofs.Common.{ℕ, ◌<◌, ◌≤◌}
use Rattle.std.specs.Prelude.{◌↔◌, IsTrue, slice_index}
use Rattle.roster_cumulative.proofs.judged.have_room.Given as goal

-- the loads so far
abbrev pub invariant-loop-j : goal.invariant-loop-j
invariant-loop-j l = IsTrue l.have ↔ ((k : ℕ) → k < l.j → slice_index l.loads k ≤ slice_index l.rooms k)
