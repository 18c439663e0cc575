use Rattle.roster_desk_words.specs.Limits.{IsLimitLine}
use Rattle.roster_desk_words.proofs.Parts.{next_part}
use Rattle.roster_desk_words.proofs.limits.lines_of.Goals as goal

pub loop-limit-preserved : goal.loop-limit-preserved
loop-limit-preserved c =
    next_part (IsLimitLine c.args.problem.now c.args.list.now c.args.k) c.args.limits.now _ _ _ _ _ _ c.loop-limit-test.true
    c.loop-limit.invariant c.in_ok-line.ensures c.as_slice.ensures.value c.in_ok-extend_from_slice.ensures.items
