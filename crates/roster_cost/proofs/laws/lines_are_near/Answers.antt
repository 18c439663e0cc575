use Rattle.roster_model.specs.Problem.{home_of}
use Rattle.roster_cost.proofs.Extra.{line-near}
use Rattle.roster_cost.proofs.laws.lines_are_near.Goals as goal

pub returns : goal.returns
returns c problem k set sound line =
    line-near problem k set
    (c.flight_of_set.ensures problem (home_of problem k).days k set line.ascending) sound line
