use Rattle.std.proofs.Common.{◌≡◌, ◌∙◌, ap, arith, subst, sym}
use Rattle.std.specs.List.Sorted.{IsNonDecreasing}
use Rattle.std.proofs.lemmas.List.Sorted.{IsNonDecreasingBy-from_default}
use Rattle.roster_model.proofs.WindowLemmas.{mids-in_order}
use Rattle.roster_model.specs.Calendar.{Days}
use Rattle.roster_instants.proofs.ZoneLemmas.{HaveCome, day_begun, past_window}
use Rattle.roster_instants.proofs.days.BaseDays.day_of.Goals as goal

pub come_by-begun-requires : goal.come_by-begun-requires
come_by-begun-requires c =
    let days : Days = record { month_days = c.self.inside.month_days; mid = c.self.inside.mid.items; eight = c.self.inside.eight.items; ten = c.self.inside.ten.items } in
    let long = c.self.invariant.mid in
    subst IsNonDecreasing (sym c.deref.ensures.value) (IsNonDecreasingBy-from_default (λ x. x) days.mid 0 (λ i j order within. mids-in_order days c.self.invariant i j order (omega arith)))

pub returns-then-begun-days : goal.returns-then-begun-days
returns-then-begun-days c =
    let begun = c.come_by-begun.result in
    let long = c.days.ensures.table.mid in
    let mids : c.deref.result.now ≡ c.args.self.now.mid =
    c.deref.ensures.value ∙ ap (λ (d : Days). d.mid) c.self.view_is in
    past_window c.args.self.now c.args.instant begun
    (subst (λ xs. HaveCome xs c.args.instant begun) mids c.come_by-begun.ensures.value)
    (omega (arith, long, c.days.ensures.value, c.if-begun-days.true))

pub returns : goal.returns
returns c =
    let begun = c.come_by-begun.result in
    let long = c.days.ensures.table.mid in
    let mids : c.deref.result.now ≡ c.args.self.now.mid =
    c.deref.ensures.value ∙ ap (λ (d : Days). d.mid) c.self.view_is in
    day_begun c.args.self.now c.args.instant begun c.checked_sub.result
    (subst (λ xs. HaveCome xs c.args.instant begun) mids c.come_by-begun.ensures.value)
    (omega (arith, long, c.days.ensures.value, c.if-begun-days.false)) c.checked_sub.ensures
