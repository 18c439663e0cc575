use Rattle.std.proofs.Common.{◌≡◌, ◌++◌, ℕ, List, drop, take}
use Rattle.roster_desk_reports.specs.Faults.{names_fault}
use Rattle.roster_desk_reports.specs.Given.{AreTaken, Grows, HasNames, IsAmongNames}
use Rattle.roster_desk_reports.proofs.placing.put_names.Given as goal

-- the first names are put, and nothing is wrong with them
abbrev pub invariant-loop-i : goal.invariant-loop-i
invariant-loop-i l = record {
  grows : Grows l.problem (λ p k. (k ≡ l.number) × IsAmongNames l.problem l.names l.i p) l.initial.places l.places;
  has : HasNames l.problem l.places l.number l.names l.i;
  taken : (before : List (List ℕ)) → AreTaken l.problem l.initial.places before
      → AreTaken l.problem l.places (before ++ take l.i l.names)
      × (names_fault l.problem (before ++ take l.i l.names) (drop l.i l.names) ≡ names_fault l.problem before l.names);
}
