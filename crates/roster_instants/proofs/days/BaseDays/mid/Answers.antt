use Rattle.std.proofs.Common.{subst}
use Rattle.std.specs.List.Sorted.{IsStrictlyIncreasing}
use Rattle.roster_model.proofs.WindowLemmas.{mids-increase}
use Rattle.roster_model.specs.Calendar.{Days}
use Rattle.roster_instants.proofs.days.BaseDays.mid.Goals as goal

pub returns-clause-rising : goal.returns-clause-rising
returns-clause-rising c =
    let P : Days → Type 0 = λ d. IsStrictlyIncreasing d.mid in
    subst P c.self.view_is (mids-increase _ c.self.invariant)
