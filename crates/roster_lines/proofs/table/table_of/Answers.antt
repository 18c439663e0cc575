use Rattle.std.proofs.Common.{length, sym, ap, subst, arith}
use Rattle.roster_lines.specs.Made.{IsMadeOf}
use Rattle.roster_lines.proofs.Made.{IsMadeOf-from_clauses, IsTableOf-whole}
use Rattle.roster_lines.proofs.table.table_of.Goals as goal

pub add-requires-clause-made : goal.add-requires-clause-made
add-requires-clause-made c =
    let problem = c.args.problem.now in
    let made = c.lines_of.ensures in
    subst (λ k. IsMadeOf problem k c.lines_of.result) (sym c.loop-k.invariant.long)
    (IsMadeOf-from_clauses problem c.loop-k.k _ made.lines made.costs made.few made.fault)

pub returns-clause-table : goal.returns-clause-table
returns-clause-table c =
    let persons = ap length c.persons-k-end.ensures.value in
    let last = c.loop-k.auto.k-end in
    IsTableOf-whole c.args.problem.now c.loop-k.table
    (omega (arith, c.loop-k.invariant.long, c.loop-k-test.false)) c.loop-k.invariant.lines
