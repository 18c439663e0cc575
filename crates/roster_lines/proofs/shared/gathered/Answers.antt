use Rattle.std.proofs.Common.{length, Some, sym, ap, ◌∙◌, subst, arith, rules}
use Rattle.std.proofs.lemmas.Iterator.Adapters.{YieldsList-from_vec}
use Rattle.std.proofs.lemmas.Iterator.Consumers.{YieldsList-turn, YieldsList-end}
use Rattle.std.proofs.lemmas.Option.{slice_get-get_or}
use Rattle.roster_lines.specs.Made.{IsMadeOf}
use Rattle.roster_lines.proofs.Made.{IsTableOf-whole}
use Rattle.roster_lines.proofs.shared.gathered.Goals as goal

pub add-requires : goal.add-requires
add-requires c =
    let slots = c.args.slots.items in
    let so_far = c.loop-made.invariant in
    let turn = YieldsList-turn (YieldsList-from_vec {s = c.into_iter-made-iterator.result} slots (search rules) (search rules)) c.loop-made.yielded c.loop-made.made-iterator c.loop-made.yielded_by c.next.result c.next.new.self c.in-Some.made c.in-Some.is c.next.ensures.steps in
    let here =
    slice_get-get_or slots (length c.loop-made.yielded) c.in-Some.made turn.0 ∙ ap Some (sym turn.1) in
    record {
      next = omega (arith, so_far.long, turn.0, c.requires.covers);
      table = so_far.lines;
      made =
          subst (λ k. IsMadeOf c.args.problem.now k c.in-Some.made) (sym so_far.long)
          (c.requires.each (length c.loop-made.yielded) c.in-Some.made here);
    }

pub returns-clause-table : goal.returns-clause-table
returns-clause-table c =
    let slots = c.args.slots.items in
    let so_far = c.loop-made.invariant in
    let end = YieldsList-end (YieldsList-from_vec {s = c.into_iter-made-iterator.result} slots (search rules) (search rules)) c.loop-made.yielded c.loop-made.made-iterator c.loop-made.yielded_by c.next.result c.next.new.self c.in-None.is c.next.ensures.steps in
    IsTableOf-whole c.args.problem.now c.loop-made.table
    (omega (arith, so_far.long, end.1, c.requires.covers)) so_far.lines
