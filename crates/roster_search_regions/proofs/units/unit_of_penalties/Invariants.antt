use Prim.Native.Nat.{◌∣◌}
use Rattle.std.proofs.Common.{ℕ, ◌<◌, get_or}
use Rattle.roster_model.specs.records.Pairing.{Pairing}
use Rattle.roster_search_regions.proofs.units.unit_of_penalties.Given as goal

-- it divides the penalties so far
abbrev pub invariant-loop-p : goal.invariant-loop-p
invariant-loop-p l = (i : ℕ) (d : Pairing) → i < l.p → l.unit ∣ (get_or l.problem.pairings i d).penalty
