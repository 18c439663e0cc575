use Rattle.std.proofs.Common.{subst, sym}
use Rattle.std.specs.List.Sorted.{IsNonDecreasing}
use Rattle.std.proofs.lemmas.List.Sorted.{IsNonDecreasingBy-from_default}
use Rattle.roster_model.proofs.WindowLemmas.{eight-later}
use Rattle.roster_model.specs.Calendar.{Days}
use Rattle.roster_instants.proofs.days.BaseDays.mornings_by.Goals as goal

pub come_by-requires : goal.come_by-requires
come_by-requires c =
    let days : Days = record { month_days = c.self.inside.month_days; mid = c.self.inside.mid.items; eight = c.self.inside.eight.items; ten = c.self.inside.ten.items } in
    subst IsNonDecreasing (sym c.deref.ensures.value)
    (IsNonDecreasingBy-from_default (λ x. x) days.eight 0 (eight-later days c.self.invariant))
