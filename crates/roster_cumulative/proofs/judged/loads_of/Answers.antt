use Rattle.std.proofs.Common.{map, min, ap, ◌∙◌}
use Rattle.roster_cumulative.specs.declared.judged.CappedSum.{CappedSum}
use Rattle.roster_cumulative.specs.Judged.{most_load}
use Rattle.roster_cumulative.proofs.JudgedSums.{loads-of_sums}
use Rattle.roster_cumulative.proofs.judged.loads_of.Goals as goal

pub returns : goal.returns
returns c =
    c.in_ok-loads.ensures
    ∙ ap (map (λ (s : CappedSum). min most_load s.total)) (c.deref.ensures.value ∙ c.in_ok-sums.ensures)
    ∙ loads-of_sums c.args.days.now c.args.list.now 0 0
