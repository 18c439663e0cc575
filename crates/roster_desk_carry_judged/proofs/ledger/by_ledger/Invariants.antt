use Rattle.std.proofs.Common.{◌≡◌, map, take}
use Rattle.roster_desk_carry_judged.specs.Months.{by_ledger}
use Rattle.roster_desk_carry_judged.proofs.ledger.by_ledger.Given as goal

-- what the ledger has of the first persons
abbrev pub invariant-loop-k : goal.invariant-loop-k
invariant-loop-k l = l.before.items ≡ map (by_ledger l.this l.ledger) (take l.k l.persons)
