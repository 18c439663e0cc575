use Rattle.std.proofs.Common.{refl, arith}
use Rattle.std.proofs.lemmas.Int.{ints}
use Rattle.roster_search_regions.proofs.Write.{IsWriting-dead}
use Rattle.roster_search_regions.proofs.writer.Writer.reach.Goals as goal

pub loop-self-preserved : goal.loop-self-preserved
loop-self-preserved c lines is =
    IsWriting-dead c.loop-self.self _ c.args.path.now lines _
    (c.loop-self.invariant lines is) c.in_ok-push.ensures.items refl refl refl refl
    (record {
      depth = omega (arith, c.length.ensures.bound);
      last = c.last.ensures.bound;
      extra = (omega (arith, ints), omega (arith, ints));
    })
    refl (omega (arith, c.length.ensures.value)) refl c.last.ensures.value
