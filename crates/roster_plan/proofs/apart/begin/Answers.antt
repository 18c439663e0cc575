use Rattle.std.proofs.Common.{subst}
use Rattle.roster_plan.specs.Bases.{AreGaps}
use Rattle.roster_plan.proofs.apart.begin.Goals as goal

pub returns : goal.returns
returns g c =
    subst (λ problem. AreGaps problem c.in_ok-gaps.gaps.items) c.requires.lent.pricing c.in_ok-gaps.ensures
