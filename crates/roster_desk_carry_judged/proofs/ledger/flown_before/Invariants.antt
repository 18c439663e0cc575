use Rattle.std.proofs.Common.{◌≡◌, take}
use Rattle.roster_desk_carry_judged.specs.Months.{flown_in, is_of_ten, is_of_year}
use Rattle.roster_desk_carry_judged.proofs.ledger.flown_before.Given as goal

-- what the first rows have
abbrev pub invariant-loop-i : goal.invariant-loop-i
invariant-loop-i l = record {
  year : l.flown.year ≡ flown_in (is_of_year l.this) l.person.id (take l.i l.ledger);
  ten : l.flown.eleven ≡ flown_in (is_of_ten l.this) l.person.id (take l.i l.ledger);
}
