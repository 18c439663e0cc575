use Rattle.std.proofs.Common.{◌≡◌, ◌<◌, ◌+◌, ◌*◌, ◌∷◌, ◌++◌, [], Some, None, set, sym, subst, SFits, w32, rules}
use Rattle.std.proofs.lemmas.Int.{to_z-of_z}
use Rattle.roster_model.specs.declared.limits.TheConstants.{MOST_PERSONS, MOST_PAIRINGS}
use Rattle.roster_model.specs.records.Cost.{Cost, units_given}
use Rattle.roster_problem.specs.Costs.{AreUnitsOf}
use Rattle.roster_problem.proofs.CostTables.{AreUnitsOf-push}
use Rattle.roster_problem.proofs.costs.Costs.push.Goals as goal

pub invariant_of-self-2 : goal.invariant_of-self-2
invariant_of-self-2 c =
    let fits : SFits w32 c.cost.inside.units = search rules in
    let made : Cost = record { person = c.cost.inside.person; pairing = c.cost.inside.pairing; units = c.cost.inside.units } in
    let person = subst (λ (cost : Cost). cost.person < MOST_PERSONS) (sym c.cost.view_is) c.requires.person in
    let pairing =
    subst (λ (cost : Cost). cost.pairing < MOST_PAIRINGS) (sym c.cost.view_is) c.requires.pairing in
    let once =
    subst (λ (cost : Cost). units_given c.self.inside.costs.items cost.person cost.pairing ≡ None)
    (sym c.cost.view_is) (rw (← c.self.view_is) at c.requires.once) in
    let more = AreUnitsOf-push c.self.inside.costs.items c.self.inside.table.items c.make_room.new.table.items made c.self.invariant c.make_room.ensures.same person pairing once c.in_ok-make_room.ensures.room in
    rw (c.in_ok-push.ensures.items, to_z-of_z w32 c.cost.inside.units fits)
    (subst (λ (cost : Cost). AreUnitsOf (c.self.inside.costs.items ++ cost ∷ []) (set c.make_room.new.table.items (made.person * MOST_PAIRINGS + made.pairing) (Some made.units))) c.cost.view_is more)
