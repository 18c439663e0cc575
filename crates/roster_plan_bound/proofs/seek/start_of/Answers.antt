use Rattle.std.proofs.Common.{ap}
use Rattle.roster_model.specs.declared.limits.TheConstants.{MOST_PAIRINGS}
use Rattle.roster_plan_bound.proofs.SeekLemmas.{least-of-all, parts-of}
use Rattle.roster_plan_bound.proofs.seek.start_of.Goals as goal

pub returns-clause-all : goal.returns-clause-all
returns-clause-all c least from =
    let o = c.args.prospect.now in
    let parts =
    parts-of c.part_of_legal_is_legal.ensures c.problem.result.now o.problem o.person c.problem.ensures
    c.is_sound.ensures.ordered c.is_sound.ensures.timed in
    least-of-all o c.timeline.ensures.is parts c.empty.result c.timeline.result.now.alone MOST_PAIRINGS least c.empty.ensures (ap (λ t. t.alone) c.timeline.ensures.value) from
