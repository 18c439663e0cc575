use Rattle.std.proofs.Common.{◌≡◌, ℕ, ◌-◌, ◌<◌, ◌≤◌}
use Rattle.std.specs.Prelude.{slice_index}
use Rattle.roster_cumulative.proofs.judged.take_room.Given as goal

-- the rooms so far, and those to come
abbrev pub invariant-loop-j : goal.invariant-loop-j
invariant-loop-j l = record {
  taken : (k : ℕ) → k < l.j → slice_index l.rooms k ≡ slice_index l.fn.rooms k - slice_index l.loads k;
  others : (k : ℕ) → l.j ≤ k → slice_index l.rooms k ≡ slice_index l.fn.rooms k;
}
