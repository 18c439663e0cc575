use Rattle.std.proofs.Common.{drop}
use Rattle.roster_model.specs.Problem.{Problem}
use Rattle.roster_desk_answers.specs.Broken.{BreakBy}
use Rattle.roster_desk_answers.proofs.breaking.broken_off.Given as goal

-- what breaks off by the words that are left does so behind what has broken off
abbrev pub invariant-loop-words : goal.invariant-loop-words
invariant-loop-words l =
    (last : Problem) → BreakBy l.at l.book (drop l.words-index l.line.broken.items) last
    → BreakBy l.at l.initial.book l.line.broken.items last
