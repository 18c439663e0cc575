use Rattle.std.proofs.Common.{◌≡◌, ℕ, Bool, length, take, Option}
use Rattle.std.specs.Prelude.{All}
use Rattle.std.specs.Fn.{FnReturnsAt}
use Rattle.roster_problem.specs.Duties.{IsIndex, is_at}
use Rattle.roster_problem.proofs.index.by_place.Given as goal

-- the lists have the positions of the entries so far
abbrev pub invariant-loop-i : goal.invariant-loop-i
invariant-loop-i g l = record {
  long : length l.lists ≡ l.places;
  index : (belongs : ℕ → g.row.T.Denot → Bool)
      → ((p : ℕ) (entry : g.row.T.Denot) (place : Option ℕ) → FnReturnsAt g.F.Fn l.place_of entry place → belongs p entry ≡ is_at p place)
      → IsIndex belongs l.places (take l.i l.entries) l.lists;
  given : All (λ entry. (place : Option ℕ) × FnReturnsAt g.F.Fn l.place_of entry place) (take l.i l.entries);
}
