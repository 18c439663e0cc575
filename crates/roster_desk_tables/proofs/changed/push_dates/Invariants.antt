use Rattle.roster_desk_tables.specs.Changed.{HaveDates}
use Rattle.roster_desk_tables.proofs.changed.push_dates.Given as goal

-- the dates so far
abbrev pub invariant-loop-i : goal.invariant-loop-i
invariant-loop-i l = HaveDates l.problem l.before l.after l.k l.i l.initial.out.items l.out.items
