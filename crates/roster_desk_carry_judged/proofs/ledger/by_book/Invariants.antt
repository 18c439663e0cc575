use Rattle.std.proofs.Common.{◌≡◌, map, take}
use Rattle.roster_desk_carry_judged.specs.Months.{by_book}
use Rattle.roster_desk_carry_judged.proofs.ledger.by_book.Given as goal

-- what the book has of the first persons
abbrev pub invariant-loop-k : goal.invariant-loop-k
invariant-loop-k l = l.before.items ≡ map by_book (take l.k l.persons)
