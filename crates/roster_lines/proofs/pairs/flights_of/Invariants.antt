use Rattle.std.proofs.Common.{◌≡◌, ℕ, length, Some}
use Rattle.std.specs.Prelude.{slice_get}
use Rattle.roster_cost.specs.Amounts.{minutes_of_pairing}
use Rattle.roster_lines.proofs.pairs.flights_of.Given as goal

-- the flight of the pairings so far
abbrev pub invariant-loop-p : goal.invariant-loop-p
invariant-loop-p l = record {
  long : length l.flights.items ≡ l.p;
  each : (q minutes : ℕ) → slice_get l.flights.items q ≡ Some minutes
      → minutes ≡ minutes_of_pairing l.problem l.k q;
}
