use Rattle.std.proofs.Common.{◌≡◌, ℕ, ◌<◌}
use Rattle.std.specs.Prelude.{slice_get}
use Rattle.roster_desk_same.proofs.days.are_same_days.Given as goal

-- the days before this one are the same
abbrev pub invariant-loop-i : goal.invariant-loop-i
invariant-loop-i l = record {
  mid : (j : ℕ) → j < l.i → slice_get l.a.mid j ≡ slice_get l.b.mid j;
  eight : (j : ℕ) → j < l.i → slice_get l.a.eight j ≡ slice_get l.b.eight j;
  ten : (j : ℕ) → j < l.i → slice_get l.a.ten j ≡ slice_get l.b.ten j;
}
