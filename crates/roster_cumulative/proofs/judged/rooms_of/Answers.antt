use Rattle.std.proofs.Common.{◌-◌, map, min, ap, ◌∙◌}
use Rattle.roster_cumulative.specs.declared.judged.CappedSum.{CappedSum}
use Rattle.roster_cumulative.specs.Judged.{most_load}
use Rattle.roster_cumulative.proofs.JudgedSums.{rooms-of_sums}
use Rattle.roster_cumulative.proofs.judged.rooms_of.Goals as goal

pub returns : goal.returns
returns c =
    c.in_ok-rooms.ensures
    ∙ ap (map (λ (s : CappedSum). min most_load (s.most - s.total))) (c.deref.ensures.value ∙ c.in_ok-sums.ensures)
    ∙ rooms-of_sums c.args.days.now c.args.list.now c.args.year c.args.eleven
