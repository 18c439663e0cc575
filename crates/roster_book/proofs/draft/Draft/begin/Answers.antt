use Rattle.std.proofs.Common.{[], ap, sym, ◌∙◌, arith}
use Rattle.csv.specs.Records.{fields_of}
use Rattle.roster_model.specs.Problem.{Problem}
use Rattle.roster_problem.specs.Sound.{tables_of_period}
use Rattle.roster_values.specs.View.{command_of}
use Rattle.roster_book.proofs.Sound.{first_is_period}
use Rattle.roster_book.proofs.Tables.{no_assign, no_step, tables_in-first}
use Rattle.roster_book.proofs.draft.Draft.begin.Goals as goal

pub returns : goal.returns
returns c =
    let none = c.in_ok-read_first.ensures.0 in
    let period = first_is_period (command_of c.args.command) (fields_of c.args.fields.now) none in
    let tables = tables_in-first (fields_of c.args.fields.now) period in
    record {
      begun = omega arith;
      row_is = omega arith;
      tables_are = rw c.new.ensures (ap (λ (t : Problem). record t { duties = [] }) c.empty.ensures ∙ ap tables_of_period c.in_ok-read_first.ensures.1 ∙ sym tables);
      assigns_are = rw c.new-2.ensures.items (sym (no_assign (fields_of c.args.fields.now) period));
      steps_are = rw c.none.ensures (sym (no_step (fields_of c.args.fields.now) period));
      faultless = (none, tt);
    }
