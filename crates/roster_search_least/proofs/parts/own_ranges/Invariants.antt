use Rattle.std.proofs.Common.{◌≡◌, ℕ, ◌<◌, cond, eqb, Some, vec_len}
use Rattle.std.specs.Prelude.{slice_get}
use Rattle.roster_bases.specs.Bases.{base_of_person}
use Rattle.roster_search_least.proofs.parts.own_ranges.Given as goal

-- the persons so far have their own range or the one of the empty line
abbrev pub invariant-loop-k : goal.invariant-loop-k
invariant-loop-k l = record {
  covers : vec_len l.own ≡ l.k;
  each : (j : ℕ) (range : ℕ × ℕ) → j < l.k → slice_get l.ranges j ≡ Some range
      → slice_get l.own.items j ≡ Some (cond (eqb (base_of_person l.problem j) l.base) range (0, 1));
}
