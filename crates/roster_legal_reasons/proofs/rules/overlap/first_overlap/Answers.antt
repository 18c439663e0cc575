use Rattle.std.proofs.Common.{arith}
use Rattle.roster_legal_reasons.proofs.Turns.{no_overlap_to, nothing_shared_past, nothing_shared_to, turn-more}
use Rattle.roster_legal_reasons.proofs.rules.overlap.first_overlap.Goals as goal

pub returns-then-minutes-gt0 : goal.returns-then-minutes-gt0
returns-then-minutes-gt0 c =
    let list = c.args.list.now in
    let turn = c.loop-i.invariant in
    record {
      a = c.duty.result.now;
      b = c.duty-in-loop-i.result.now;
      at_first = c.duty.ensures;
      at_second = c.duty-in-loop-i.ensures;
      neighbours = omega arith;
      minutes = c.shared-minutes.ensures;
      some = omega arith;
      first = λ m n x y before below at_x at_y. nothing_shared_to list c.requires.timed c.loop-i.i turn m n x y before below at_x at_y;
      alone = λ m x before at_x. nothing_shared_past list c.requires.ordered c.requires.timed c.loop-i.i turn m x c.duty.result.now c.duty-in-loop-i.result.now before at_x c.duty.ensures c.duty-in-loop-i.ensures;
    }

pub loop-i-preserved : goal.loop-i-preserved
loop-i-preserved c =
    turn-more c.args.list.now c.requires.ordered c.requires.timed c.loop-i.i _ _ c.duty.ensures c.duty-in-loop-i.ensures (omega arith) c.loop-i.invariant

pub returns : goal.returns
returns c = no_overlap_to c.args.list.now c.requires.timed c.loop-i.i (omega arith) c.loop-i.invariant
