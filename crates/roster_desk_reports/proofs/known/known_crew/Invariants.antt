use Rattle.std.proofs.Common.{◌≡◌, filter, map}
use Rattle.roster_desk_reports.specs.Known.{is_there, known_numbered}
use Rattle.roster_desk_reports.specs.Text.{numbered_by_line}
use Rattle.roster_desk_reports.proofs.known.known_crew.Given as goal

-- what the first lines of the book's persons give of its pairings
abbrev pub invariant-loop-crew : goal.invariant-loop-crew
invariant-loop-crew l = map numbered_by_line l.known.items
    ≡ map (λ crew. known_numbered l.problem (numbered_by_line crew)) (filter (λ crew. is_there l.problem crew.person) l.yielded)
