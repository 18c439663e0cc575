use Rattle.std.proofs.Common.{arith}
use Rattle.std.proofs.lemmas.Bool.Decides.{nat_tests}
use Rattle.std.proofs.lemmas.List.{take_rest}
use Rattle.roster_report.proofs.Appends.{Appends-front}
use Rattle.roster_desk_answers.proofs.writing.give.Goals as goal

pub loop-taken-preserved : goal.loop-taken-preserved
loop-taken-preserved g c =
    let took = rw take_rest at c.in-Ok.ensures.bytes in
    record {
      within = omega (arith, c.in-Ok.ensures.bound);
      goes = grind (arith, nat_tests, c.in-Ok.ensures.goes);
      so_far = Appends-front _ _ _ c.loop-taken.taken c.in-Ok.more c.args.text.now c.loop-taken.invariant.so_far took;
    }
