use Rattle.std.proofs.Common.{[]}
use Rattle.roster_desk_tables.specs.Changed.{HaveLines}
use Rattle.roster_desk_tables.proofs.changed.changed_text.Given as goal

-- the lines so far
abbrev pub invariant-loop-k : goal.invariant-loop-k
invariant-loop-k l = HaveLines l.problem l.before l.after l.k [] l.out.items
