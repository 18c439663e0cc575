use Rattle.std.proofs.Common.{◌≡◌, ℕ, List, drop}
use Rattle.std.specs.Prelude.{map}
use Rattle.roster_desk_reports.specs.Faults.{placing_fault}
use Rattle.roster_desk_reports.specs.Given.{AreTaken, Grows, HasFirst, IsGivenFirst}
use Rattle.roster_desk_reports.specs.Text.{given_by_line, numbered_by_line}
use Rattle.roster_desk_reports.proofs.placing.put_lines.Given as goal

-- the first lines are put, and nothing is wrong with them
abbrev pub invariant-loop-i : goal.invariant-loop-i
invariant-loop-i l = record {
  grows : Grows l.problem (IsGivenFirst l.problem (map given_by_line l.lines) l.i) l.initial.places l.places;
  has : HasFirst l.problem l.places (map given_by_line l.lines) l.i;
  taken : (before : List (List ℕ)) → AreTaken l.problem l.initial.places before
      → (after : List (List ℕ)) × AreTaken l.problem l.places after
      × (placing_fault l.problem after (drop l.i (map numbered_by_line l.lines)) ≡ placing_fault l.problem before (map numbered_by_line l.lines));
}
