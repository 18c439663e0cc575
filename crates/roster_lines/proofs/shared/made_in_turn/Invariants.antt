use Rattle.roster_lines.specs.Made.{AreMadeFor}
use Rattle.roster_lines.proofs.shared.made_in_turn.Given as goal

-- what is made so far
abbrev pub invariant-loop : goal.invariant-loop
invariant-loop l = AreMadeFor l.problem l.all.items
