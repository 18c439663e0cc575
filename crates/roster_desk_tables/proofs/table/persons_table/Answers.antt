use Rattle.std.proofs.Common.{◌≡◌, ap, arith, length, subst}
use Rattle.roster_desk_tables.specs.Rows.{HavePersonRows}
use Rattle.roster_desk_tables.proofs.Having.{have_more, have_none}
use Rattle.roster_desk_tables.proofs.table.persons_table.Goals as goal

pub loop-k-init : goal.loop-k-init
loop-k-init c = record { whole = c.in_ok-table.ensures.whole; rows = have_none _ _ }

pub loop-k-preserved : goal.loop-k-preserved
loop-k-preserved c =
    let here = c.in_ok-push_person.ensures c.loop-k.invariant.whole in
    record { whole = here.row.whole; rows = have_more _ _ _ _ _ c.loop-k.invariant.rows here }

pub returns : goal.returns
returns c =
    let problem = c.args.problem.now in
    let persons : length c.persons-k-end.result.now ≡ length problem.persons = ap length c.persons-k-end.ensures.value in
    let all : c.loop-k.k ≡ length problem.persons = omega (arith, persons, c.loop-k.auto.k-end, c.loop-k-test.false) in
    record {
      first = c.in_ok-table.table;
      last = c.loop-k.table;
      setup = c.in_ok-table.ensures.setup;
      heads = c.in_ok-table.ensures.text;
      names = c.in_ok-table.ensures.names;
      rows = subst (λ n. HavePersonRows problem c.args.places.now n c.in_ok-table.table c.loop-k.table) all c.loop-k.invariant.rows;
      all = c.in_ok-text.ensures;
    }
