use Rattle.std.proofs.Common.{◌≡◌, [], map, replicate}
use Rattle.roster_problem.proofs.index.Lists.new.Given as goal

-- as many empty lists as turns
abbrev pub invariant-loop : goal.invariant-loop
invariant-loop l = map (λ list. list.items) l.lists.items ≡ replicate l.counter []
